-- What a client sent along its way counts at each NAT of it, for as long as these stay open to the client's server and lose nothing.
use Rattle.theory_ways.proofs.Words.{Acted, AllByRecursion, Bool, ClientNode, Entry, Ep, Full, Grown, Has, IsActOf, Lab, List, NatEntry, Node, Option, Out, Outward, Passing, Some, [], acted, ap, arith, client, cond, contains_of, counting, counts_kept, counts_of, does, each_is_later, false, false≢true, find, has_of, idles, inl, inr, is_node, is_some, is_young, is_young_out, let_out_of, nat, nat_entries, nat_history, nat_of, native, now, outs_at, relay, server, starts, stays_kept, subst, sym, true, went_to, younger_too, ℕ, ◌++◌, ◌∙◌, ◌∷◌, ◌≡◌, ◌≤◌, ◌⊎◌}
use Rattle.theory_ways.proofs.chains.Rises.{IsPart, next_part}
use Rattle.theory_ways.proofs.phases.OneMore.{Asker, OneMore, was, after, IsThere, Did}
use Rattle.theory_ways.proofs.outwards.Latest.{find_split}
use Rattle.theory_ways.proofs.outwards.Asks.{server_of, latest_ask, Counts, left_at}
use Rattle.theory_ways.proofs.outwards.Fresh.{fresh, out_moment}
use Rattle.theory_ways.proofs.outwards.Spared.{Spared, Young, spared}
use Rattle.theory_ways.proofs.outwards.LetOut.{SameOut}
use Rattle.theory_ways.proofs.outwards.OpenNats.{young_latest}
use Rattle.theory_ways.proofs.phases.Histories.{one_more_of}
use Rattle.theory_ways.proofs.outwards.WentOut.{WentOut}

-- a datagram to that endpoint counts at NAT k, and is no older than the client's latest one to its server there
pub record IsHeld (v : Asker) (k : ℕ) (inside to : Ep) (d : Outward) : Type 0 where
  pub counts : Counts v k d
  pub left : d.inside ≡ inside
  pub goes : d.dst ≡ to
  pub late : (e : Outward) → latest_ask v k ≡ Some (Out e) → e.moment.0 ≤ d.moment.0

-- so one does at each of these NATs, from where the one before let it out; the last one let it out at o
abbrev pub Held : Asker → Ep → List ℕ → (inside o : Ep) → Type 0
Held v to [] inside o = inside ≡ o
Held v to (k ∷ way) inside o = (d : Outward) × IsHeld v k inside to d × Held v to way (left_at v.lab k d) o

-- MOMENTS

-- what is let out in a record is let out at its moment
passed_then : (x : OneMore) (k : ℕ) (d : Outward) → Has (outs_at k x.full.passed) (Out d) → d.moment.0 ≡ x.full.moment
passed_then x k d h = by (acted x.lab x.before x.full x.grown.0) where
  none : x.full.passed ≡ [] → ⊥
  none e = subst (λ (ps : List Passing). Has (outs_at k ps) (Out d)) e h

  of_act : (j : ℕ) (a : Node) (e : Entry) → IsActOf x.lab x.before x.full j a e → d.moment.0 ≡ x.full.moment
  of_act j (client c) e act = out_moment x (record { number = j; row = c; entry = e; act = act }) k d h
  of_act j (server a) e act = absurd (none act.passed)
  of_act j (nat a) e act = absurd (none act.passed)
  of_act j (relay a) e act = absurd (none act.passed)
  of_act j (native a) e act = absurd (none act.passed)

  by : Acted x.lab x.before x.full → d.moment.0 ≡ x.full.moment
  by (idles entry address handed late lets) = absurd (none lets)
  by (does j a e act) = of_act j a e act

-- so nothing that was let out is later than now
found_before : {lab : Lab} {n : ℕ} {c : ClientNode} (there : IsThere lab n c) (k : ℕ) (to : Ep) (e : Outward) (H : List Full) → Grown lab H
    → find (went_to to) (let_out_of n k H) ≡ Some (Out e) → e.moment.0 ≤ now H
found_before there k to e [] g at = absurd (false≢true (ap (λ (o : Option NatEntry). is_some o) at))
found_before {lab} {n} {c} there k to e (r ∷ H) g at =
    by (starts n r) (is_node n r.node) at (λ f. found_before there k to e H g.1 f) where
      older : e.moment.0 ≤ now H → e.moment.0 ≤ r.moment
      older before = let later = each_is_later lab H r g in omega (arith, before, later)

      new : Has (outs_at k r.passed) (Out e) → e.moment.0 ≤ r.moment
      new h = let same = passed_then (one_more_of lab n c there H r g) k e h in omega (arith, same)

      of_split : (find (went_to to) (let_out_of n k H) ≡ Some (Out e) → e.moment.0 ≤ now H)
          → (Has (outs_at k r.passed) (Out e) × (went_to to (Out e) ≡ true)) ⊎ (find (went_to to) (let_out_of n k H) ≡ Some (Out e)) → e.moment.0 ≤ r.moment
      of_split ih (inl there_now) = new there_now.0
      of_split ih (inr old) = older (ih old)

      by : (b own : Bool) → find (went_to to) (cond b [] (cond own (outs_at k r.passed ++ let_out_of n k H) (let_out_of n k H))) ≡ Some (Out e)
          → (find (went_to to) (let_out_of n k H) ≡ Some (Out e) → e.moment.0 ≤ now H) → e.moment.0 ≤ r.moment
      by true own f ih = absurd (false≢true (ap (λ (o : Option NatEntry). is_some o) f))
      by false true f ih = of_split ih (find_split (went_to to) (outs_at k r.passed) (let_out_of n k H) (Out e) f)
      by false false f ih = older (ih f)

-- THE RECORD IN WHICH IT IS SENT

-- what went out in a record is held after it
pub held_after : (x : OneMore) (a : Did x) (to : Ep) (way : List ℕ) (from o : Ep) → WentOut x.lab x.full.passed to way from o
    → Held (after x) to way from o
held_after x a to [] from o w = w
held_after x a to (k ∷ way) from o w = (
  w.0,
  record {
    counts = fresh x a k w.0 w.1.there;
    left = w.1.inside;
    goes = w.1.goes;
    late = λ e at.
        let before : e.moment.0 ≤ x.full.moment =
        found_before x.there k (server_of (after x)) e (x.full ∷ x.before) x.grown at in
        let same = out_moment x a k w.0 w.1.there in
        omega (arith, before, same);
  },
  held_after x a to way (left_at x.lab k w.0) o w.2,
)

-- A RECORD OF ANOTHER NODE

module _ (x : OneMore) (same : SameOut x) where
  -- what is held counts on
  still_held : {k : ℕ} {inside to : Ep} {d : Outward} → IsHeld (was x) k inside to d → Young x k → Spared x.lab x.full k inside
      → IsHeld (after x) k inside to d
  still_held {k} {inside} {d} h young here =
      let idle = (nat_of x.lab k).idle in
      let past = nat_history x.lab k x.before in
      let ask = young_latest idle x.full.moment (latest_ask (was x) k) young in
      let ask_young : is_young idle x.full.moment ask.0 ≡ true = ap (is_young_out idle x.full.moment) (sym ask.1) ∙ young in
      let before = counts_kept idle (now x.before) past d (has_of (counting idle (now x.before) past) d h.counts) in
      let stayed = stays_kept inside (nat_entries x.lab k x.full) past d here h.left before.0 in
      record {
        counts = contains_of (counting idle x.full.moment (nat_entries x.lab k x.full ++ past)) d
            (counts_of idle x.full.moment (nat_entries x.lab k x.full ++ past) d stayed
            (younger_too idle x.full.moment d ask.0 (h.late ask.0 ask.1) ask_young));
        left = h.left;
        goes = h.goes;
        late = λ e at. h.late e (ap (find (went_to (server_of (was x)))) (sym (same k)) ∙ at);
      }

  -- so it does at each of these NATs, which are open, lose nothing, and aren't started anew
  pub held_on : {to : Ep} (way : List ℕ) {k : ℕ} {inside : Ep} (o : Ep) → IsPart x.lab x.row way k → Held (was x) to (k ∷ way) inside o
      → AllByRecursion (Young x) (k ∷ way) → Spared x.lab x.full k inside → AllByRecursion (λ (j : ℕ). starts j x.full ≡ false) way
      → Held (after x) to (k ∷ way) inside o
  held_on {to} [] {k} {inside} o part h young here off = (h.0, still_held h.1 young.0 here, h.2)
  held_on {to} (j ∷ way) {k} {inside} o part h young here off = (
    h.0,
    still_held h.1 young.0 here,
    held_on way o (next_part x.lab x.row way k j part) h.2 young.1
        (spared x k j part.on.0 off.0 h.0) off.1,
  )
