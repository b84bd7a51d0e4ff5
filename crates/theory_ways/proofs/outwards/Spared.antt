-- A record that loses nothing at a client's NATs leaves what the client asked there.
use Rattle.theory_ways.proofs.Words.{AllByRecursion, Bool, ClientNode, Ep, Event, Forget, Full, IsEvent, IsForgotten, IsOutOf, Lab, List, NatEntry, NatGrows, None, Option, Out, Outward, Passing, Restart, Some, [], ap, arith, client_at, client_is_there, cond, contains_of, counting, counts_kept, counts_of, false, false≢true, forgets, forgotten, has_of, is_client_of, is_loss_of, is_node, is_open_through, is_restart, is_young, is_young_out, lets_out, list_any, nat_entries, nat_grows, nat_history, nat_of, nat_tests, node_at, now, option_map, option_to_list, outer_in, outs_at, refl, restarts, same_ep, same_ep-true, starts, stays, stays_kept, subst, sym, true, ℕ, ◌&&◌, ◌++◌, ◌==◌, ◌||◌, ◌∙◌, ◌∷◌, ◌≡◌}
use Rattle.events.specs.declared.event.Event.TheVariants as event
use Rattle.theory_ways.proofs.chains.Nats.{apart_from}
use Rattle.theory_ways.proofs.phases.OneMore.{OneMore, was, after}
use Rattle.theory_ways.proofs.outwards.Asks.{Counts, IsAsk, left_at}

-- NOTHING IS LOST

-- NAT k loses nothing of what came from there
abbrev pub Spared : Lab → Full → ℕ → Ep → Type 0
Spared lab r k inside = list_any (is_loss_of inside) (nat_entries lab k r) ≡ false

-- all is lost
abbrev is_all : NatEntry → Bool
is_all (Out e) = false
is_all (Forget who) = false
is_all Restart = true

-- to let something out loses nothing
lets_all : (k : ℕ) (ps : List Passing) → list_any is_all (outs_at k ps) ≡ false
lets_all k [] = refl
lets_all k (p ∷ ps) = by (p.nat == k) (lets_all k ps) where
  by : (b : Bool) → list_any is_all (outs_at k ps) ≡ false → list_any is_all (cond b (Out p.datagram ∷ outs_at k ps) (outs_at k ps)) ≡ false
  by true h = h
  by false h = h

-- nor does one that forgets a client
keeps_all : (lab : Lab) (e : Event) → list_any is_all (forgotten lab e) ≡ false
keeps_all lab (event.Forget k who) = by (client_at lab.topology who) where
  by : (o : Option ClientNode) → list_any is_all (option_to_list (option_map (λ (c : ClientNode). Forget c.inside) o)) ≡ false
  by None = refl
  by (Some c) = refl
keeps_all lab _ = refl

-- so no NAT does that isn't started anew
none_lost : (lab : Lab) (r : Full) (k : ℕ) → starts k r ≡ false → list_any is_all (nat_entries lab k r) ≡ false
none_lost lab r k off = by (is_node k r.node) (is_restart r.act) off where
  by : (b x : Bool) → (b && x) ≡ false → list_any is_all (cond b (cond x (Restart ∷ []) (forgotten lab r.asked)) (outs_at k r.passed)) ≡ false
  by true true h = absurd (false≢true (sym h))
  by true false h = keeps_all lab r.asked
  by false x h = lets_all k r.passed

module _ (x : OneMore) where
  abbrev lab : Lab
  lab = x.lab

  abbrev H : List Full
  H = x.before

  abbrev r : Full
  r = x.full

  all_out : (c : ClientNode) (m k : ℕ) (inside : Ep) (xs : List NatEntry) → AllByRecursion (IsOutOf lab c m k) xs → list_any (is_loss_of inside) xs ≡ false
  all_out c m k inside [] a = refl
  all_out c m k inside (y ∷ xs) a = ap (λ (z : NatEntry). is_loss_of inside z || list_any (is_loss_of inside) xs) a.0.is ∙ all_out c m k inside xs a.1

  -- a client directly behind a NAT
  behind : (j who : ℕ) (d : ClientNode) → client_at lab.topology who ≡ Some d → is_client_of j (node_at lab.topology who) ≡ true → d.nat ≡ j
  behind j who d at h =
      let h' : (d.nat == j) ≡ true = ap (is_client_of j) (sym (client_is_there.node lab.topology who d at)) ∙ h in
      grind (arith, nat_tests)

  forgotten_by : (j who : ℕ) → r.asked ≡ event.Forget j who → IsForgotten lab.topology j who
  forgotten_by j who asked = subst (IsEvent lab.topology) asked x.grown.0.event

  -- an outer NAT of a way forgets no endpoint of the one before it
  pub spared : (k j : ℕ) → outer_in lab.chain k ≡ Some j → starts j r ≡ false → (d : Outward) → Spared lab r j (left_at lab k d)
  spared k j at off d = by (nat_entries lab j r) refl (nat_grows lab H r j x.grown.0) where
    inside : Ep
    inside = left_at lab k d

    -- no client directly behind it has that endpoint
    nobody : (who : ℕ) (c : ClientNode) → client_at lab.topology who ≡ Some c → r.asked ≡ event.Forget j who → c.inside ≡ inside → ⊥
    nobody who c there asked its =
        let nat_is : c.nat ≡ j = behind j who c there (forgotten_by j who asked).behind in
        apart_from lab x.there.is x.there.chained who (client_is_there.node lab.topology who c there) k
        (at ∙ ap (λ (i : ℕ). Some i) (sym nat_is)) (ap (λ (e : Ep). e.ip) its)

    by : (added : List NatEntry) → nat_entries lab j r ≡ added → NatGrows lab r j added → list_any (is_loss_of inside) added ≡ false
    by added e (stays none) = ap (λ (xs : List NatEntry). list_any (is_loss_of inside) xs) none
    by added e (restarts asked same) = absurd (false≢true (sym (none_lost lab r j off) ∙ ap (λ (xs : List NatEntry). list_any is_all xs) (e ∙ same)))
    by added e (lets_out n c node there outs) = all_out c r.moment j inside added outs
    by added e (forgets who c asked there same) = ap (λ (xs : List NatEntry). list_any (is_loss_of inside) xs) same
        ∙ ap (λ (b : Bool). b || false) (other (same_ep c.inside inside) refl) where
          other : (b : Bool) → same_ep c.inside inside ≡ b → same_ep c.inside inside ≡ false
          other false h = h
          other true h = absurd (nobody who c there asked (same_ep-true c.inside inside h))

  -- AN ASK STAYS

  -- NAT k is open to the client's server
  abbrev pub Young : ℕ → Type 0
  Young k = is_open_through lab H r.moment x.number x.row k ≡ true

  young_of : (k : ℕ) (inside : Ep) (d : Outward) → IsAsk (was x) k inside d → Young k → is_young (nat_of lab k).idle r.moment d ≡ true
  young_of k inside d a young = ap (is_young_out (nat_of lab k).idle r.moment) (sym a.latest) ∙ young

  -- what the client asked counts on
  pub still_counts : (k : ℕ) (inside : Ep) (d : Outward) → IsAsk (was x) k inside d → Young k → Spared lab r k inside → Counts (after x) k d
  still_counts k inside d a young spared_here =
      let idle = (nat_of lab k).idle in
      let h = nat_history lab k H in
      let before = counts_kept idle (now H) h d (has_of (counting idle (now H) h) d a.counts) in
      let stayed = stays_kept inside (nat_entries lab k r) h d spared_here a.left before.0 in
      contains_of (counting idle r.moment (nat_entries lab k r ++ h)) d
      (counts_of idle r.moment (nat_entries lab k r ++ h) d stayed (young_of k inside d a young))
