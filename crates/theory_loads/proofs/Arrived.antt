-- By each saying that a load arrives, its bytes get out by that record.
use Rattle.theory_loads.proofs.Words.{Acted, All-contains, All-from_recursion, AllByRecursion, ClientNode, EachArrivalIsHanded, EachHasBytes, Entry, Full, HeldRecord, IsActOf, IsHandedOut, Latest, List, Load, Loads, Mark, Node, None, Option, Some, Span, TopologyState, ap, as_client, client, does, entry_of, entry_peer, false, hands_over_held, held_for, idles, is_some, load_given, loads, map, mentions_at, mentions_if, nat, native, numbered_mentions, option_and_then, packet_on_wire, part_of, refl, relay, said_of_given, sayings_of, server, subst, sym, true, wire, ℕ, ◌∙◌, ◌∷◌, ◌≡◌}
use Rattle.legal.proofs.LawProofs as laws
use Rattle.theory_loads.proofs.Records.{RecordsHaveBytes}
use Rattle.theory_loads.proofs.Fates.{gets_out}
use Rattle.theory_loads.proofs.Outlets.{native_gets, held_gets, not_both, nobody_inside, others_hand_nothing}
use Rattle.theory_loads.proofs.Throughout.{are_carried, records_still, latest}
use Rattle.theory_loads.proofs.Said.{IsTrueOf, GetsOutLate, given_true, held_true, all_true}
use Rattle.theory_loads.proofs.Arriving.{native_out, handed_out, late_out}

module _ (the : Latest) where
  open the use {lab, before, full, is, grown}

  abbrev t : TopologyState
  t = lab.topology

  abbrev H : List Full
  H = before

  abbrev r : Full
  r = full

  abbrev L : Loads
  L = loads lab.topology before

  abbrev Out : Load → Type 0
  Out k = IsHandedOut lab H r k

  abbrev GivenGetsOut : Type 0
  GivenGetsOut = (k : Load) → load_given L r ≡ Some k → Out k

  abbrev held_then : List HeldRecord
  held_then = held_for (mentions_at t H r.node) r.moment (entry_peer r.entry)

  truths : ((m : Option Mark) → AllByRecursion (IsTrueOf Out) (said_of_given r (load_given L r) m)) → (hands_over_held r.fate ≡ true → AllByRecursion (GetsOutLate Out L r) held_then)
      → AllByRecursion (IsTrueOf Out) (sayings_of t H L r)
  truths given late = all_true Out t H L r given (held_true Out L r (mentions_at t H r.node) late)

  -- NOBODY

  of_nobody : r.entry ≡ None → r.handed ≡ None → AllByRecursion (IsTrueOf Out) (sayings_of t H L r)
  of_nobody none nothing = truths
      (λ m. given_true Out r (load_given L r) m (λ brought. absurd (not_both inside (native_gets r.fate brought))) (λ some. absurd (not_both (ap (λ (o : Option (List ℕ)). is_some o) nothing) some)))
      (λ holds. absurd (not_both inside (held_gets r.fate holds))) where
        inside : gets_out r.fate ≡ false
        inside = nobody_inside lab H r none (laws.kinds lab H r grown.0)

  -- A NODE

  module _ (carried : EachHasBytes H L.wire (map packet_on_wire (wire H))) (records : RecordsHaveBytes (r ∷ H) t H) where
    module _ (n : ℕ) (a : Node) (e : Entry) (act : IsActOf lab H r n a e) where
      fate_is : (entry_of lab H r.moment n act.dst act.input a).step.fate ≡ r.fate
      fate_is = ap (λ (z : Entry). z.step.fate) (sym act.step) ∙ sym act.fate

      handed_there : (o : Option Span) → is_some (option_and_then (part_of e.input) o) ≡ true → is_some o ≡ true
      handed_there None one = one
      handed_there (Some span) one = refl

      of_other : is_some (as_client a) ≡ false → AllByRecursion (IsTrueOf Out) (sayings_of t H L r)
      of_other other = truths (λ m. given_true Out r (load_given L r) m (native_out the carried records n a e act) (λ some. absurd (nothing.0 (handed some))))
          (λ holds. absurd (not_both nothing.1 (ap hands_over_held fate_is ∙ holds))) where
            nothing : (is_some (entry_of lab H r.moment n act.dst act.input a).step.handed ≡ true → ⊥) × (hands_over_held (entry_of lab H r.moment n act.dst act.input a).step.fate ≡ false)
            nothing = others_hand_nothing lab H r.moment n act.dst a act.input other

            handed : is_some r.handed ≡ true → is_some (entry_of lab H r.moment n act.dst act.input a).step.handed ≡ true
            handed some = subst (λ (z : Entry). is_some z.step.handed ≡ true) act.step (handed_there e.step.handed (ap (λ (o : Option (List ℕ)). is_some o) (sym act.handed) ∙ some))

      held_is : held_then ≡ held_for (numbered_mentions H n a) r.moment (entry_peer (Some e))
      held_is = ap (λ (o : Option ℕ). held_for (mentions_at t H o) r.moment (entry_peer r.entry)) act.node
          ∙ ap (λ (o : Option Node). held_for (mentions_if H n o) r.moment (entry_peer r.entry)) act.there
          ∙ ap (λ (o : Option Entry). held_for (numbered_mentions H n a) r.moment (entry_peer o)) act.entry

    of_client : (n : ℕ) (c : ClientNode) (e : Entry) → IsActOf lab H r n (client c) e → AllByRecursion (IsTrueOf Out) (sayings_of t H L r)
    of_client n c e act = truths
        (λ m. given_true Out r (load_given L r) m (native_out the carried records n (client c) e act) (handed_out the carried records n c e act))
        (λ holds. subst (AllByRecursion (GetsOutLate Out L r)) (sym (held_is n (client c) e act)) (late_out the carried records n c e act holds))

    of_act : (n : ℕ) (a : Node) (e : Entry) → IsActOf lab H r n a e → AllByRecursion (IsTrueOf Out) (sayings_of t H L r)
    of_act n (client c) e act = of_client n c e act
    of_act n (server b) e act = of_other n (server b) e act refl
    of_act n (nat b) e act = of_other n (nat b) e act refl
    of_act n (relay b) e act = of_other n (relay b) e act refl
    of_act n (native b) e act = of_other n (native b) e act refl

    pub arrivals_true : AllByRecursion (IsTrueOf Out) (sayings_of t H L r)
    arrivals_true = by (laws.acted lab H r grown.0) where
      by : Acted lab H r → AllByRecursion (IsTrueOf Out) (sayings_of t H L r)
      by (idles entry address hands late lets) = of_nobody entry hands
      by (does n a e act) = of_act n a e act

pub each_arrival_is_handed : EachArrivalIsHanded
each_arrival_is_handed lab H r s is g there arrives =
    let t = lab.topology in
    let before = are_carried lab H is g.1 in
    let all = arrivals_true (latest lab H r is g) before.wire (records_still r H t H before.records) in
    let said = sayings_of t H (loads t H) r in
    let Out : Load → Type 0 = λ k. IsHandedOut lab H r k in
    All-contains (IsTrueOf Out) said s (All-from_recursion (IsTrueOf Out) said all) there arrives
