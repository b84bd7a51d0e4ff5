-- What is held at a client, and handed over late, by the fates.
use Rattle.client_rules.proofs.Words.{AllByRecursion, Bool, Contains, EachLate, Entry, Ep, Fate, HandsLate, Held, HoldingRule, IfSome, Input, Ip6, Journal, List, Mention, None, Option, ReceivedOnlyIf, Settings, Some, Standing, Value, WasHeld, WasHeldIn, Words, [], arrived, bearing_of, client_entry, client_in, client_out, client_tick, cond, destination_in, due_at, epoch, false, filter, first_peer, from_six, heard, held, held_from, held_of, held_test, holding_is_kept, inl, inr, is_about, kept, known, known_in, map, mention, mentions, peer_is, qualification, reception, reception_fate, reception_step, refl, rule2, same_ep, same_ep-true, seen, source_in, source_of, standing_at, standing_of, subst, sym, ticked, true, unspecified, unwrap_or, value_in, ℕ, ◌∙◌, ◌∷◌, ◌≡◌, ◌⊎◌}
use Rattle.teredo_node.specs.declared.fate.Fate.TheVariants as fate
use Rattle.teredo_node.specs.Journal.{given}
use Rattle.client_rules.specs.Handed.{nothing}
use Rattle.client_rules.proofs.Fates.{fate_of_reception}
use Rattle.client_rules.proofs.Received.{reception_is_warranted}
use Rattle.client_rules.proofs.ReceivedSends.{has_source, given_back}
use Rattle.client_rules.proofs.Addressed.{each_within}
use Rattle.client_rules.proofs.Handed.{of_packet, of_due}

-- WHAT IS HELD

-- whatever holds of the packet of an entry that holds it holds of what an entry holds
holds_by : (f : Fate) (e : Entry) (P : Held → Type 0) → (HoldingRule f → IfSome (held_of (source_of e.input) e.packet) P) → IfSome (bearing_of f e).holds P
holds_by fate.HeldTest e P h = h (held_test refl)
holds_by fate.Held e P h = h (held refl)
holds_by _ e P h = tt

held_is : (e : Entry) (from : Option Ep) (packet : Option (List ℕ)) → source_of e.input ≡ from → e.packet ≡ packet → HoldingRule e.step.fate → IfSome (held_of from packet) (λ h. WasHeld h.from e.peer h.packet e)
held_is e None packet came is rule = tt
held_is e (Some from) None came is rule = tt
held_is e (Some from) (Some x) came is rule = record { rule = rule; came = came; packet = is; peer = refl }

-- a mention of a held packet is of an entry of these
module _ (all : List Entry) (p : Ip6) where
  abbrev Came : Held → Type 0
  Came h = WasHeldIn all h.from (Some p) h.packet

  one_of : (e : Entry) (o : Option Held) → Contains all e → e.peer ≡ Some p → IfSome o (λ h. WasHeld h.from e.peer h.packet e) → IfSome o Came
  one_of e None at is h = tt
  one_of e (Some x) at is h = (e, at, subst (λ o. WasHeld x.from o x.packet e) is h)

  held_mentions : (es : List Entry) → AllByRecursion (Contains all) es → AllByRecursion (λ (m : Mention). is_about p m ≡ true → IfSome m.bearing.holds Came) (map mention es)
  held_mentions [] at = tt
  held_mentions (e ∷ es) at =
      ((λ about. holds_by e.step.fate e Came (λ rule. one_of e (held_of (source_of e.input) e.packet) at.0 (peer_is p e.peer about) (held_is e (source_of e.input) e.packet refl refl rule))), held_mentions es at.1)

held_came : (j : List Entry) (n : ℕ) (p : Ip6) → AllByRecursion (Came (epoch j) p) (known (mentions j) n p).held
unfolding mentions
held_came j n p =
    let es = epoch j in
    kept (λ x. AllByRecursion (Came es p) x.held) (λ m. IfSome m.bearing.holds (Came es p)) (holding_is_kept (Came es p)) p (map mention es) (held_mentions es p es (each_within es)) n

-- of these what came from an endpoint
from_there : (P : Ep → List ℕ → Type 0) (from : Ep) (hs : List Held) → AllByRecursion (λ (h : Held). P h.from h.packet) hs → AllByRecursion (P from) (held_from from hs)
from_there P from [] a = tt
from_there P from (h ∷ hs) a = by_test (same_ep h.from from) refl (from_there P from hs a.1) where
  by_test : (b : Bool) → same_ep h.from from ≡ b → AllByRecursion (P from) (held_from from hs)
      → AllByRecursion (P from) (map (λ (x : Held). x.packet) (cond b (h ∷ filter (λ (x : Held). same_ep x.from from) hs) (filter (λ (x : Held). same_ep x.from from) hs)))
  by_test true same rest = (subst (λ at. P at h.packet) (same_ep-true h.from from same) a.0, rest)
  by_test false other rest = rest

-- DATAGRAMS

-- rule 2 alone hands over late
by_reception : (R : List (List ℕ) → Type 0) (s : Settings) (a : Standing) (from : Ep) (x : List ℕ) (v : Value) (w : Words) (f : Fate)
    → R [] → (f ≡ fate.Rule2 → R (held_from from (known_in a).held)) → R (reception_step s a from x v w f).late
by_reception R s a from x v w fate.Rule2 none two = two refl
by_reception R s a from x v w _ none two = none

module _ (s : Settings) (j : Journal) (n : ℕ) (from : Ep) (x : List ℕ) where
  abbrev es : List Entry
  es = epoch j.entries

  abbrev a : Standing
  a = standing_of s j n (source_in x)

  -- nothing, or by rule 2
  abbrev IsSo : List (List ℕ) → Type 0
  IsSo late = (late ≡ []) ⊎ ((reception_fate s a from x ≡ fate.Rule2) × AllByRecursion (WasHeldIn es from (source_in x)) late)

  by_rule2 : reception_fate s a from x ≡ fate.Rule2 → AllByRecursion (WasHeldIn es from (source_in x)) (held_from from (known_in a).held)
  unfolding standing_at
  by_rule2 k =
      let p : Ip6 = unwrap_or (source_in x) unspecified in
      let tested = subst (λ f. ReceivedOnlyIf f (seen s a from x) (heard s a.qualification from (value_in x))) k (reception_is_warranted s a from x) in
      let there = given_back (source_in x) (value_in x).packet.src (has_source s a from x tested.direct.mine).source in
      subst (λ o. AllByRecursion (WasHeldIn es from o) (held_from from (known_in a).held)) there
      (from_there (λ at y. WasHeldIn es at (Some p) y) from (known (mentions j.entries) n p).held (held_came j.entries n p))

  concludes : (w : Words) → IsSo (reception s a from x w).late → HandsLate es (client_in s j n from x w)
  unfolding client_in standing_at
  concludes w (inl none) = nothing none
  concludes w (inr both) = rule2 from refl (fate_of_reception s a from x w ∙ both.0) both.1

  of_datagram : (w : Words) → HandsLate es (client_in s j n from x w)
  unfolding reception
  of_datagram w = concludes w (by_reception IsSo s a from x (value_in x) w (reception_fate s a from x) (inl refl) (λ k. inr (k, by_rule2 k)))

-- ANY ENTRY

of_entry : (s : Settings) (j : Journal) (n : ℕ) (input : Input) (w : Words) → HandsLate (epoch j.entries) (client_entry s j n input w)
unfolding client_out client_tick
of_entry s j n (arrived from x) w = of_datagram s j n from x w
of_entry s j n (given x) w = nothing (of_packet s (standing_of s j n (destination_in x)) x w).1
of_entry s j n ticked w = nothing (of_due s n (qualification s j) w (due_at n (qualification s j) (first_peer j n))).1
of_entry s j n (from_six x) w = nothing refl

pub each_late : EachLate
each_late s j e a = subst (λ (x : Entry). HandsLate (epoch j.entries) x) (sym a.0.is) (of_entry s j e.moment e.input a.0.words)
