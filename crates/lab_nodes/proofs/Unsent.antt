-- Where nothing is made of an entry it sends nothing, and has a fate at which something is kept.
use Rattle.lab_nodes.proofs.Words.{Bool, Entry, Ep, Fate, Full, Ip6, Journal, Lab, List, Made, None, Option, Policy, ReceivedOnlyIf, Relay, RelaySettings, Send, SendsOrKeeps, Settings, Side, Some, Standing, TakesPlace, Words, [], ap, armed, by_way, client_in, destination_in, false≢true, fate_of_reception, fate_of_transmission, fields_in, has_any, heard, holds, is_good_origin, lists, map, option_to_list, origin_in, outright, reception, reception_fate, reception_is_warranted, reception_step, refl, relay_given, relay_settings_of, relay_six, relay_standing_of, relay_transmission, relay_transmission_row, relay_transmission_step, seen, source_in, standing_of, sym, takes_memory, to_hold, to_list, true, value_in, ℕ, ◌++◌, ◌∙◌, ◌∷◌, ◌≡◌}
use Rattle.teredo_node.specs.declared.fate.Fate.TheVariants as fate
use Rattle.relay_core.specs.Relay as relays

-- WHERE NOTHING IS MADE

filled : {A : Type 0} (x : A) (xs : List A) → x ∷ xs ≡ [] → ⊥
filled x xs e = false≢true (sym (ap has_any e))

-- of a client
pub none_by_way : (lab : Lab) (H : List Full) (m : ℕ) (way : List ℕ) (inside : Ep) (sends : List Send) → (by_way lab H m way inside (armed H) 0 [] sends).made ≡ [] → sends ≡ []
none_by_way lab H m way inside [] e = refl
none_by_way lab H m way inside (y ∷ ys) e = absurd (false≢true (sym (ap has_any e)))

-- of a server or relay
pub none_outright : (own : Side → Ep) (fails : Option ℕ) (i : ℕ) (sends : List Send) (more : List Made) → outright own fails i sends ++ more ≡ [] → sends ≡ []
none_outright own fails i [] more e = refl
none_outright own fails i (y ∷ ys) more e = absurd (false≢true (sym (ap has_any e)))

-- WHERE NOTHING IS SENT

-- a good origin is there, so a bubble goes to it
answered : {A : Type 0} (policy : Policy) (p : Ip6) (origin : Option Ep) (f : Ep → A) → is_good_origin policy p origin ≡ true → map f (option_to_list origin) ≡ [] → ⊥
answered policy p None f good e = false≢true good
answered policy p (Some at) f good e = false≢true (sym (ap has_any e))

-- where the line of a fate sends nothing, that fate takes memory
abbrev KeepsUnsent : Settings → Standing → Ep → List ℕ → Words → Fate → Type 0
KeepsUnsent s a from x w f = (reception_step s a from x (value_in x) w f).sends ≡ [] → takes_memory f ≡ true

-- a line that lists the source of a datagram, or holds its packet, and sends nothing has a fate that takes memory
listing : (s : Settings) (a : Standing) (from : Ep) (x : List ℕ) (w : Words) (f : Fate) → ReceivedOnlyIf f (seen s a from x) (heard s a.qualification from (value_in x)) → lists f ≡ true → KeepsUnsent s a from x w f
unfolding seen
listing s a from x w fate.Indirect h l unsent = absurd (answered s.policy (value_in x).packet.src (origin_in (value_in x).lead) _ h.origin unsent)
listing s a from x w fate.Rule3 h l unsent = refl
listing s a from x w fate.Rule3Bubble h l unsent = refl
listing s a from x w _ h l unsent = absurd (false≢true l)

holding : (s : Settings) (a : Standing) (from : Ep) (x : List ℕ) (w : Words) (f : Fate) → holds f ≡ true → KeepsUnsent s a from x w f
holding s a from x w fate.HeldTest l unsent = absurd (filled _ _ unsent)
holding s a from x w fate.Held l unsent = refl
holding s a from x w _ l unsent = absurd (false≢true l)

-- a datagram takes a place, be its source listed or not
pub record TakesSomePlace (s : Settings) (j : Journal) (m : ℕ) (from : Ep) (x : List ℕ) (w : Words) : Type 0 where
  pub listed : Bool
  pub takes : TakesPlace (client_in s j m from x w).step.fate listed

-- where it sends nothing it takes memory
pub received_unsent : (s : Settings) (j : Journal) (m : ℕ) (from : Ep) (x : List ℕ) (w : Words) → TakesSomePlace s j m from x w → SendsOrKeeps (client_in s j m from x w).step
unfolding client_in reception
received_unsent s j m from x w t = by_place t.takes where
  by_place : TakesPlace (client_in s j m from x w).step.fate t.listed → SendsOrKeeps (client_in s j m from x w).step
  by_place (to_hold l) unsent =
      let a = standing_of s j m (source_in x) in
      let is = fate_of_reception s a from x w in
      ap takes_memory is ∙ holding s a from x w (reception_fate s a from x) (sym (ap holds is) ∙ l) unsent
  by_place (to_list l none) unsent =
      let a = standing_of s j m (source_in x) in
      let is = fate_of_reception s a from x w in
      ap takes_memory is ∙ listing s a from x w (reception_fate s a from x) (reception_is_warranted s a from x) (sym (ap lists is) ∙ l) unsent

-- a packet to a cone is sent
cone_sent : (s : RelaySettings) (j : List Entry) (m : ℕ) (x : List ℕ) → (relay_six s j m x).step.fate ≡ fate.SentCone → SendsOrKeeps (relay_six s j m x).step
unfolding relay_six relay_transmission
cone_sent s j m x is unsent =
    let a = relay_standing_of j m (destination_in x) in
    let row : relay_transmission_row (relay_given s a x) ≡ fate.SentCone = sym (fate_of_transmission s a x) ∙ is in
    absurd (filled _ _ (sym (ap (λ (f : Fate). (relay_transmission_step s a x (fields_in x).dst f).sends) row) ∙ unsent))

-- so what takes room and sends nothing is a packet that waits
pub room_unsent : (r : Relay) (j : List Entry) (m : ℕ) (x : List ℕ) → relays.TakesRoom r m x j → SendsOrKeeps (relay_six (relay_settings_of r) j m x).step
room_unsent r j m x (relays.to_wait is) unsent = ap takes_memory is
room_unsent r j m x (relays.to_list is new) unsent = cone_sent (relay_settings_of r) j m x is unsent
