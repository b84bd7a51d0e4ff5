-- The record in which a host hands in a packet: what its node did, that the packet is bytes, and where its entries come.
use Rattle.theory_first_packets.proofs.Words.{AreFresh, AreMadeInputs, Entry, Full, Grown, HEADER, HasNoFault, HostHandsIn, Ip6, IsBytes, IsMadeInput, IsTopology, Journal, Lab, List, Node, PACKET_MAX, Some, [], ap, arith, entry_input, entry_of, false, fields_in, given, is_big, is_packet, journal, length, nat_lt, nat_tests, no_ep, node_at, now, of_its_event, packet_is_bytes, packet_is_spelled, subst, true, wire, wire_is_made, with_entry, ℕ, ◌+◌, ◌∙◌, ◌∷◌, ◌≡◌, ◌≤◌}
use Rattle.theory_first_packets.proofs.Deliveries.{Did, Handing, host_hands}

-- a short packet isn't big
not_big : (x : List ℕ) → IsBytes x → is_packet x ≡ true → length x ≤ PACKET_MAX → is_big (fields_in x) ≡ false
unfolding is_big
not_big x bytes one short =
    let is = packet_is_spelled x bytes one in
    let len : length x ≡ HEADER + length (fields_in x).body = ap (λ (z : List ℕ). length z) is.1 ∙ (packet_is_bytes (fields_in x) is.0).long in
    at_most (length x) (HEADER + length (fields_in x).body) PACKET_MAX len short where
      at_most : (n m most : ℕ) → n ≡ m → n ≤ most → nat_lt most m ≡ false
      at_most n m most same le = grind (arith, nat_tests)

-- no send of the first record failed, where a schedule after it is fresh
pub sound_first : (r : Full) (later : List Full) → AreFresh r later → HasNoFault r
sound_first r [] fresh = fresh
sound_first r (q ∷ later) fresh = sound_first r later fresh.1

-- node n is a, and its host hands in x in the record after H
pub record IsHandedIn (lab : Lab) (H : List Full) (r : Full) (n : ℕ) (a : Node) (x : List ℕ) : Type 0 where
  pub rules : IsTopology lab.topology
  pub grown : Grown lab (r ∷ H)
  pub there : node_at lab.topology n ≡ Some a
  pub own : Ip6
  pub other : Ip6
  pub handed : HostHandsIn r n own other x

module _ (lab : Lab) (H : List Full) (r : Full) (n : ℕ) (a : Node) (x : List ℕ) (is : IsHandedIn lab H r n a x) where
  pub hand : Handing lab H r n a x
  hand = host_hands H is.there is.grown.0 is.handed

  abbrev e : Entry
  e = entry_of lab H (now H) n no_ep (given x) a

  -- the node did this
  pub did : Did lab H r n a e
  did = hand.did

  -- the packet is bytes
  pub bytes : IsBytes x
  bytes =
      let all : AreMadeInputs (with_entry (journal n H) e).entries = subst (λ (j : Journal). AreMadeInputs j.entries) did.later
      ((wire_is_made lab (r ∷ H) is.rules is.grown).journals n) in
      subst IsMadeInput (entry_input lab H (now H) n no_ep (given x) a) all.0

  pub small : is_big (fields_in x) ≡ false
  small = not_big x bytes is.handed.packet.packet is.handed.packet.short

  -- its entries come behind the wire
  pub number : r.first ≡ length (wire H)
  number = ap (λ (z : Full). z.first) is.grown.0.is ∙ (of_its_event lab H r.event r.asked).first
