-- A record that changes no NAT, at the same moment, leaves what a phase says.
use Rattle.theory_ways.proofs.Words.{Cone, Contains, Ep, Ip6, List, NatEntry, None, OffLine, Option, Outward, Phase, Qualified, Restricted, Secondary, Some, Symmetric, [], ap, counting, find, let_out_of, nat_history, nat_of, now, subst, sym, went_to, ℕ, ◌∙◌, ◌∷◌, ◌≡◌}
use Rattle.theory_ways.proofs.phases.OneMore.{OneMore, was, after}
use Rattle.theory_ways.proofs.outwards.Asks.{server_of, IsAsk, AsksFrom, left_at}
use Rattle.theory_ways.proofs.phases.Sound.{way_of, AloneFrom, GoodAddress, OwnOrigin, IsSoundAlong}

-- no NAT has anything new, and none let anything out of the client
pub record IsQuiet (x : OneMore) : Type 0 where
  pub past : (k : ℕ) → nat_history x.lab k (x.full ∷ x.before) ≡ nat_history x.lab k x.before
  pub moment : x.full.moment ≡ now x.before
  pub let_out : (k : ℕ) → let_out_of x.number k (x.full ∷ x.before) ≡ let_out_of x.number k x.before

module _ (x : OneMore) (quiet : IsQuiet x) where
  abbrev way : List ℕ
  way = way_of (was x)

  abbrev inside : Ep
  inside = x.row.inside

  counts : (k : ℕ) → counting (nat_of x.lab k).idle x.full.moment (nat_history x.lab k (x.full ∷ x.before))
      ≡ counting (nat_of x.lab k).idle (now x.before) (nat_history x.lab k x.before)
  counts k = ap (λ (h : List NatEntry). counting (nat_of x.lab k).idle x.full.moment h) (quiet.past k)
      ∙ ap (λ (m : ℕ). counting (nat_of x.lab k).idle m (nat_history x.lab k x.before)) quiet.moment

  ask_back : (k : ℕ) (from : Ep) (d : Outward) → IsAsk (after x) k from d → IsAsk (was x) k from d
  ask_back k from d a = record {
    latest = ap (find (went_to (server_of (was x)))) (sym (quiet.let_out k)) ∙ a.latest;
    left = a.left;
    to = a.to;
    counts = subst (λ (xs : List Outward). Contains xs d) (counts k) a.counts;
  }

  -- what was asked after it was asked before
  asks_back : (nats : List ℕ) (from o : Ep) → AsksFrom (after x) nats from o → AsksFrom (was x) nats from o
  asks_back [] from o a = a
  asks_back (k ∷ nats) from o a = (a.0, ask_back k from a.0 a.1, asks_back nats (left_at x.lab k a.0) o a.2)

  alone_on : (nats : List ℕ) (from : Ep) → AloneFrom (was x) nats from → AloneFrom (after x) nats from
  alone_on [] from a = tt
  alone_on (k ∷ nats) from a = λ d now_counts left.
      let before = a d (subst (λ (xs : List Outward). Contains xs d) (counts k) now_counts) left in
      (before.0, alone_on nats (left_at x.lab k d) before.1)

  by_origin : (k : Option Ep) → OwnOrigin (was x) k → OwnOrigin (after x) k
  by_origin None i = i
  by_origin (Some e) i = λ o asks. i o (asks_back way inside o asks)

  by_address : (a : Option Ip6) → GoodAddress (was x) a → GoodAddress (after x) a
  by_address None i = i
  by_address (Some own) i = record { opened = λ o asks. i.opened o (asks_back way inside o asks); plain = i.plain; cone = i.cone }

  -- so what a phase says stays so
  pub sound_on : (ph : Phase) (k : Option Ep) (a : Option Ip6) → IsSoundAlong (was x) ph k a → IsSoundAlong (after x) ph k a
  sound_on Cone k a i = (i.0, λ o asks. alone_on way inside (i.1 o (asks_back way inside o asks)))
  sound_on Restricted k a i = tt
  sound_on Secondary k a i = by_origin k i
  sound_on Qualified k a i = by_address a i
  sound_on Symmetric k a i = i
  sound_on OffLine k a i = tt
