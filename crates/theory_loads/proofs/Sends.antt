-- What becomes of sends that have the bytes of their loads.
use Rattle.theory_loads.proofs.Words.{AllByRecursion, AreOfSends, Bool, DATAGRAM_MAX, EachHasBytes, Ep, Full, HasBytesIfLoaded, IsBytes, IsMadeItem, List, Load, Made, None, Option, Send, Some, Value, [], ap, drop, fields_in, filter_map, if◌then◌else◌, is_packet, is_payload, item_in, length, lost, map, packet_in, packet_is_payload, read_as, releases, sent, six, subst, sym, true, udp, value_in, ℕ, ◌++◌, ◌∙◌, ◌∷◌, ◌≡◌, ◌≤◌}
use Rattle.theory_loads.proofs.Lists.{MadeHasBytes}

-- PACKETS WITH NOTHING IN FRONT

pub packet_of : (x : List ℕ) → is_payload x ≡ true → packet_in x ≡ Some (drop (value_in x).lead.at x)
unfolding packet_in
packet_of x is = ap (λ (b : Bool). if b then Some (drop (value_in x).lead.at x) else None) is

-- a packet is the packet in it
pub whole_packet : (x : List ℕ) → IsBytes x → length x ≤ DATAGRAM_MAX → is_packet x ≡ true → packet_in x ≡ Some x
whole_packet x bytes short is =
    let reads = packet_is_payload x (fields_in x) bytes short (read_as x is) in
    packet_of x reads.is_one ∙ ap (λ (v : Value). Some (drop v.lead.at x)) reads.value

module _ (W : List Full) where
  -- sent in a datagram, these bytes have those of the load
  abbrev pub SentHasBytes : Option Load → List ℕ → Type 0
  SentHasBytes l x = IsBytes x → length x ≤ DATAGRAM_MAX → HasBytesIfLoaded W l (packet_in x)

  pub packet_sent : (l : Option Load) (x : List ℕ) → is_packet x ≡ true → HasBytesIfLoaded W l (Some x) → SentHasBytes l x
  packet_sent l x is has bytes short = subst (HasBytesIfLoaded W l) (sym (whole_packet x bytes short is)) has

  -- SENDS

  -- the first sends have the bytes of these loads; those behind carry none
  abbrev pub SendsHaveBytes : List (Option Load) → List Send → Type 0
  SendsHaveBytes [] ss = Unit {0}
  SendsHaveBytes (l ∷ ls) [] = Unit {0}
  SendsHaveBytes (l ∷ ls) (s ∷ ss) = SentHasBytes l s.bytes × SendsHaveBytes ls ss

  pub no_sends : (ls : List (Option Load)) → SendsHaveBytes ls []
  no_sends [] = tt
  no_sends (l ∷ ls) = tt

  pub one_send : (l : Option Load) (s : Send) → SentHasBytes l s.bytes → SendsHaveBytes (l ∷ []) (s ∷ [])
  one_send l s has = (has, tt)

  pub made_of_none : (ls : List (Option Load)) → MadeHasBytes W ls []
  made_of_none [] = tt
  made_of_none (l ∷ ls) = tt

  -- what became of them
  pub made_of_sends : (ls : List (Option Load)) (ms : List Made) (ss : List Send) → AreOfSends ms ss → AllByRecursion IsMadeItem (filter_map item_in ms)
      → SendsHaveBytes ls ss → MadeHasBytes W ls ms
  made_of_sends [] ms ss of made has = tt
  made_of_sends (l ∷ ls) [] ss of made has = tt
  made_of_sends (l ∷ ls) (sent (udp src dst bytes) ∷ ms) (s ∷ ss) of made has = (
    subst (λ (x : List ℕ). HasBytesIfLoaded W l (packet_in x)) (sym of.0.1) (has.0 (subst IsBytes of.0.1 made.0.bytes) (subst (λ (x : List ℕ). length x ≤ DATAGRAM_MAX) of.0.1 made.0.short)),
    made_of_sends ls ms ss of.1 made.1 has.1,
  )
  made_of_sends (l ∷ ls) (sent (six to bytes) ∷ ms) (s ∷ ss) of made has = absurd of.0
  made_of_sends (l ∷ ls) (lost why dst bytes ∷ ms) (s ∷ ss) of made has = made_of_sends ls ms ss of.1 made has.1
  made_of_sends (l ∷ ls) (m ∷ ms) [] of made has = absurd of

  -- RELEASES

  -- each packet that is released
  pub released_have : (to : Ep) (ls : List (Option Load)) (xs : List (List ℕ)) → EachHasBytes W ls (map (λ (x : List ℕ). Some x) xs)
      → AllByRecursion (λ (x : List ℕ). is_packet x ≡ true) xs → SendsHaveBytes (ls ++ []) (releases to xs)
  released_have to [] [] each are = tt
  released_have to (l ∷ ls) (x ∷ xs) each are = (packet_sent l x are.0 each.0, released_have to ls xs each.1 are.1)
  released_have to [] (x ∷ xs) each are = absurd each
  released_have to (l ∷ ls) [] each are = absurd each

  -- and what goes on behind them
  pub released_and : (to : Ep) (ls more : List (Option Load)) (xs : List (List ℕ)) (front behind : List Made) → EachHasBytes W ls (map (λ (x : List ℕ). Some x) xs)
      → AllByRecursion (λ (x : List ℕ). is_packet x ≡ true) xs → AreOfSends front (releases to xs) → AllByRecursion IsMadeItem (filter_map item_in (front ++ behind))
      → MadeHasBytes W more behind → MadeHasBytes W (ls ++ more) (front ++ behind)
  released_and to [] more [] [] behind each are of made has = has
  released_and to (l ∷ ls) more (x ∷ xs) (sent (udp src dst bytes) ∷ ms) behind each are of made has = (
    subst (λ (y : List ℕ). HasBytesIfLoaded W l (packet_in y)) (sym of.0.1)
        (packet_sent l x are.0 each.0 (subst IsBytes of.0.1 made.0.bytes) (subst (λ (y : List ℕ). length y ≤ DATAGRAM_MAX) of.0.1 made.0.short)),
    released_and to ls more xs ms behind each.1 are.1 of.1 made.1 has,
  )
  released_and to (l ∷ ls) more (x ∷ xs) (sent (six for bytes) ∷ ms) behind each are of made has = absurd of.0
  released_and to (l ∷ ls) more (x ∷ xs) (lost why dst bytes ∷ ms) behind each are of made has = released_and to ls more xs ms behind each.1 are.1 of.1 made has
  released_and to [] more [] (m ∷ ms) behind each are of made has = absurd of
  released_and to (l ∷ ls) more (x ∷ xs) [] behind each are of made has = absurd of
  released_and to [] more (x ∷ xs) front behind each are of made has = absurd each
  released_and to (l ∷ ls) more [] front behind each are of made has = absurd each
