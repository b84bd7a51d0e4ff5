-- Which nodes hand packets over or are brought one, and what a client hands over late.
use Rattle.theory_loads.proofs.Words.{Bool, ClientNode, Contains, Contains-append_right, Ep, Fate, Full, Held, Input, Journal, Kind, Lab, List, NativeNode, Node, None, Option, Quiet, RelayNode, Settings, Span, Step, Words, [], ap, arith, arrived, as_client, client, client_entry, client_in, client_settings, copied, entry_of, false, fate_of_reception, filter, from_six, given, handed, hands_over_held, held_from, if◌then◌else◌, is_some, journal, known, map, mentions, nat, native, put, quiet, reached, reception, reception_fate, reception_step, refl, relay, relay_entry, relay_settings, same_ep, server, server_settings, side_at, source_in, standing_at, standing_of, subst, sym, ticked, true, unspecified, unwrap_or, value_in, words, ℕ, ◌&&◌, ◌∙◌, ◌∷◌, ◌≡◌}
use Rattle.teredo_node.specs.declared.fate.Fate.TheVariants as fate
use Rattle.legal.specs.Kinds as kinds
use Rattle.theory_loads.proofs.Given.{none_some}
use Rattle.theory_loads.proofs.Fates.{is_native_fate, gets_out, Silent, server_silent, relay_silent, native_sends_inside, native_holds_nothing, client_is}

-- FATES

pub native_gets : (f : Fate) → is_native_fate f ≡ true → gets_out f ≡ true
native_gets fate.Kept is = refl
native_gets fate.Echoed is = refl
native_gets _ is = absurd (cc is)

pub held_gets : (f : Fate) → hands_over_held f ≡ true → gets_out f ≡ true
held_gets fate.Rule2 is = refl
held_gets _ is = absurd (cc is)

is_rule2 : (f : Fate) → hands_over_held f ≡ true → f ≡ fate.Rule2
is_rule2 fate.Rule2 is = refl
is_rule2 _ is = absurd (cc is)

pub both : (a b : Bool) → a && b ≡ true → b ≡ true
both true b is = is
both false b is = absurd (cc is)

pub not_both : {b : Bool} → b ≡ false → b ≡ true → ⊥
not_both no_so yes_so = let e : false ≡ true = sym no_so ∙ yes_so in cc e

-- where nobody does anything
module _ (lab : Lab) (H : List Full) (r : Full) where
  quiet_inside : Quiet lab H r → gets_out r.fate ≡ false
  quiet_inside (kinds.passed ms asked before is) = ap (λ (z : Full). gets_out z.fate) is
  quiet_inside (kinds.shut number k x asks at goes is) = ap (λ (z : Full). gets_out z.fate) is
  quiet_inside (kinds.strayed number x asks at goes is) = ap (λ (z : Full). gets_out z.fate) is
  quiet_inside (kinds.missing number asks at is) = ap (λ (z : Full). gets_out z.fate) is
  quiet_inside (kinds.none_left asked none is) = ap (λ (z : Full). gets_out z.fate) is
  quiet_inside (kinds.settled asked none is) = ap (λ (z : Full). gets_out z.fate) is
  quiet_inside (kinds.uncopied number src dst asked at is) = ap (λ (z : Full). gets_out z.fate) is
  quiet_inside (kinds.hosted v k x hands none is) = ap (λ (z : Full). gets_out z.fate) is
  quiet_inside (kinds.restarted k asked is) = ap (λ (z : Full). gets_out z.fate) is
  quiet_inside (kinds.forgot k who asked is) = ap (λ (z : Full). gets_out z.fate) is
  quiet_inside (kinds.faulted send asked is) = ap (λ (z : Full). gets_out z.fate) is

  pub nobody_inside : r.entry ≡ None → Kind lab H r → gets_out r.fate ≡ false
  nobody_inside none (quiet entry address made lets why) = quiet_inside why
  nobody_inside none (put src dst bytes asked is) = ap (λ (z : Full). gets_out z.fate) is
  nobody_inside none (copied number src dst x asked at is) = ap (λ (z : Full). gets_out z.fate) is
  nobody_inside none (kinds.ticks ms x asked due within is) = absurd (none_some _ (sym none ∙ ap (λ (z : Full). z.entry) is))
  nobody_inside none (handed v n x a hands at is) = absurd (none_some _ (sym none ∙ ap (λ (z : Full). z.entry) is))
  nobody_inside none (reached number n x a asks at goes there is) = absurd (none_some _ (sym none ∙ ap (λ (z : Full). z.entry) is))

-- LATE

-- what a client hands over late of a datagram
pub client_late : (s : Settings) (j : Journal) (m : ℕ) (w : Words) (from : Ep) (x : List ℕ) → hands_over_held (client_in s j m from x w).step.fate ≡ true
    → (client_in s j m from x w).step.late ≡ held_from from (known (mentions j.entries) m (unwrap_or (source_in x) unspecified)).held
unfolding client_in reception standing_at
client_late s j m w from x is =
    let a = standing_of s j m (source_in x) in
    let f : reception_fate s a from x ≡ fate.Rule2 = sym (fate_of_reception s a from x w) ∙ is_rule2 (reception_step s a from x (value_in x) w (reception_fate s a from x)).fate is in
    ap (λ (g : Fate). (reception_step s a from x (value_in x) w g).late) f

pub first_in : {A : Type 0} (x : A) (xs : List A) → Contains (x ∷ xs) x
first_in x xs = (0, omega arith, refl)

module _ (from : Ep) where
  pub held_first : (h : Held) (hs : List Held) → same_ep h.from from ≡ true → Contains (held_from from (h ∷ hs)) h.packet
  held_first h hs is = subst (λ (b : Bool). Contains (map (λ (q : Held). q.packet) (if b then h ∷ filter (λ (q : Held). same_ep q.from from) hs else filter (λ (q : Held). same_ep q.from from) hs)) h.packet)
      (sym is) (first_in h.packet (held_from from hs))

  pub held_rest : (h : Held) (hs : List Held) (x : List ℕ) → Contains (held_from from hs) x → Contains (held_from from (h ∷ hs)) x
  held_rest h hs x at = by (same_ep h.from from) refl where
    by : (b : Bool) → same_ep h.from from ≡ b
        → Contains (map (λ (q : Held). q.packet) (if same_ep h.from from then h ∷ filter (λ (q : Held). same_ep q.from from) hs else filter (λ (q : Held). same_ep q.from from) hs)) x
    by true is = rw is (Contains-append_right (h.packet ∷ []) (held_from from hs) x at)
    by false is = rw is at

-- WHICH NODE

-- by this input a packet came to a native host
pub data CameToNative (a : Node) (input : Input) : Type 0 where
  came_to : (h : NativeNode) (x : List ℕ) → a ≡ native h → input ≡ from_six x → CameToNative a input

module _ (lab : Lab) (H : List Full) (m n : ℕ) (dst : Ep) where
  abbrev step_by : Input → Node → Step
  step_by input a = (entry_of lab H m n dst input a).step

  no_way : (a : Node) (input : Input) → gets_out (step_by input a).fate ≡ false → is_native_fate (step_by input a).fate ≡ true → CameToNative a input
  no_way a input inside is = absurd (not_both inside (native_gets (step_by input a).fate is))

  not_client : (c : ClientNode) (input : Input) → is_native_fate (client_entry (client_settings lab.topology c) (journal n H) m input (words lab n H)).step.fate ≡ true → CameToNative (client c) input
  not_client c input is = absurd (not_both (client_is (client_settings lab.topology c) (journal n H) m (words lab n H) input) is)

  relay_is_silent : (q : RelayNode) (input : Input) → Silent (relay_entry (relay_settings lab.topology n q) (journal n H).entries m input).step
  relay_is_silent q input = relay_silent (relay_settings lab.topology n q) (journal n H).entries m input

  pub came_to_native : (a : Node) (input : Input) → is_native_fate (step_by input a).fate ≡ true → CameToNative a input
  came_to_native (server a) (arrived from x) is = no_way (server a) (arrived from x) (server_silent (server_settings a) (side_at (server a) dst) from x).inside is
  came_to_native (server a) (given x) is = absurd (cc is)
  came_to_native (server a) (from_six x) is = absurd (cc is)
  came_to_native (server a) ticked is = absurd (cc is)
  came_to_native (nat a) (arrived from x) is = absurd (cc is)
  came_to_native (nat a) (given x) is = absurd (cc is)
  came_to_native (nat a) (from_six x) is = absurd (cc is)
  came_to_native (nat a) ticked is = absurd (cc is)
  came_to_native (client c) (arrived from x) is = not_client c (arrived from x) is
  came_to_native (client c) (given x) is = not_client c (given x) is
  came_to_native (client c) (from_six x) is = not_client c (from_six x) is
  came_to_native (client c) ticked is = not_client c ticked is
  came_to_native (relay q) (arrived from x) is = no_way (relay q) (arrived from x) (relay_is_silent q (arrived from x)).inside is
  came_to_native (relay q) (given x) is = no_way (relay q) (given x) (relay_is_silent q (given x)).inside is
  came_to_native (relay q) (from_six x) is = no_way (relay q) (from_six x) (relay_is_silent q (from_six x)).inside is
  came_to_native (relay q) ticked is = no_way (relay q) ticked (relay_is_silent q ticked).inside is
  came_to_native (native h) (arrived from x) is = absurd (cc is)
  came_to_native (native h) (given x) is = no_way (native h) (given x) (native_sends_inside h.six x) is
  came_to_native (native h) (from_six x) is = came_to h x refl refl
  came_to_native (native h) ticked is = absurd (cc is)

  -- nothing but a client hands over a packet, at once or late
  none_handed : (o : Option Span) → o ≡ None → is_some o ≡ true → ⊥
  none_handed o none is = let e : false ≡ true = sym (ap (λ (q : Option Span). is_some q) none) ∙ is in cc e

  abbrev HandsNothing : Node → Input → Type 0
  HandsNothing a input = (is_some (step_by input a).handed ≡ true → ⊥) × (hands_over_held (step_by input a).fate ≡ false)

  held_inside : (f : Fate) → gets_out f ≡ false → hands_over_held f ≡ false
  held_inside fate.Rule2 inside = absurd (cc inside)
  held_inside _ inside = refl

  silent_hands : (a : Node) (input : Input) → Silent (step_by input a) → HandsNothing a input
  silent_hands a input silent = (none_handed (step_by input a).handed silent.handed, held_inside (step_by input a).fate silent.inside)

  idle_hands : {A : Type 0} → false ≡ true → A
  idle_hands is = absurd (cc is)

  pub others_hand_nothing : (a : Node) (input : Input) → is_some (as_client a) ≡ false → HandsNothing a input
  others_hand_nothing (server a) (arrived from x) other = silent_hands (server a) (arrived from x) (server_silent (server_settings a) (side_at (server a) dst) from x)
  others_hand_nothing (server a) (given x) other = ((λ is. idle_hands is), refl)
  others_hand_nothing (server a) (from_six x) other = ((λ is. idle_hands is), refl)
  others_hand_nothing (server a) ticked other = ((λ is. idle_hands is), refl)
  others_hand_nothing (nat a) (arrived from x) other = ((λ is. idle_hands is), refl)
  others_hand_nothing (nat a) (given x) other = ((λ is. idle_hands is), refl)
  others_hand_nothing (nat a) (from_six x) other = ((λ is. idle_hands is), refl)
  others_hand_nothing (nat a) ticked other = ((λ is. idle_hands is), refl)
  others_hand_nothing (client c) input other = absurd (cc other)
  others_hand_nothing (relay q) (arrived from x) other = silent_hands (relay q) (arrived from x) (relay_is_silent q (arrived from x))
  others_hand_nothing (relay q) (given x) other = silent_hands (relay q) (given x) (relay_is_silent q (given x))
  others_hand_nothing (relay q) (from_six x) other = silent_hands (relay q) (from_six x) (relay_is_silent q (from_six x))
  others_hand_nothing (relay q) ticked other = silent_hands (relay q) ticked (relay_is_silent q ticked)
  others_hand_nothing (native h) (arrived from x) other = ((λ is. idle_hands is), refl)
  others_hand_nothing (native h) (given x) other = ((λ is. idle_hands is), held_inside (step_by (given x) (native h)).fate (native_sends_inside h.six x))
  others_hand_nothing (native h) (from_six x) other = ((λ is. idle_hands is), native_holds_nothing x)
  others_hand_nothing (native h) ticked other = ((λ is. idle_hands is), refl)
