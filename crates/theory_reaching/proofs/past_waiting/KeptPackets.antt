-- The packets that a client keeps for another one: each goes from its address to that of the other one, and is no bubble.
use Rattle.theory_reaching.proofs.Words.{AllByRecursion, ClientNode, DATAGRAM_MAX, Full, Grown, HEADER, Ip6, IsBytes, IsOwnTo, IsTopology, Lab, List, None, Option, PACKET_MAX, ReadsPayload, Some, ap, arith, client, client_address, client_journals, client_made, client_settings, each_pair, false, fields_in, is_big, is_packet, journal, journal_is, known, length, mentions, nat_lt, nat_tests, node_at, now, packet_is_bytes, packet_is_payload, packet_is_spelled, read_as, subst, true, value_written, waiting_is_own, wire_is_made, ℕ, ◌+◌, ◌∙◌, ◌≡◌, ◌≤◌}

-- bytes that are a packet from the one address to the other, no bubble, and not too long
pub record IsKept (own peer : Ip6) (x : List ℕ) : Type 0 where
  pub bytes : IsBytes x
  pub packet : IsOwnTo (Some own) (Some peer) x

-- a packet that isn't big is short
short_enough : (x : List ℕ) → IsBytes x → is_packet x ≡ true → is_big (fields_in x) ≡ false → length x ≤ DATAGRAM_MAX
unfolding is_big
short_enough x bytes one small =
    let is = packet_is_spelled x bytes one in
    let len : length x ≡ HEADER + length (fields_in x).body = ap (λ (z : List ℕ). length z) is.1 ∙ (packet_is_bytes (fields_in x) is.0).long in
    at_most (length x) (HEADER + length (fields_in x).body) len small where
      at_most : (n m : ℕ) → n ≡ m → nat_lt PACKET_MAX m ≡ false → n ≤ DATAGRAM_MAX
      at_most n m same e = grind (arith, nat_tests)

-- so it reads as the packet that it is
pub reads_so : (own peer : Ip6) (x : List ℕ) → IsKept own peer x → ReadsPayload (value_written None None (fields_in x)) x
reads_so own peer x kept =
    packet_is_payload x (fields_in x) kept.bytes (short_enough x kept.bytes kept.packet.well_formed kept.packet.short) (read_as x kept.packet.well_formed)

-- client n, which is c, has the address own
module _ (lab : Lab) (H : List Full) (n : ℕ) (c : ClientNode) (own peer : Ip6) (is : IsTopology lab.topology) (g : Grown lab H)
    (there : node_at lab.topology n ≡ Some (client c)) (has : client_address lab H n c ≡ Some own) where
  -- what waits for the peer there
  abbrev waiting : List (List ℕ)
  waiting = (known (mentions (journal n H).entries) (now H) peer).waiting

  pub each_kept : AllByRecursion (IsKept own peer) waiting
  each_kept =
      let s = client_settings lab.topology c in
      let of = (client_journals lab H n c g there).journal in
      let made = journal_is s (journal n H) of (client_made lab.topology n c is there) ((wire_is_made lab H is g).journals n) in
      each_pair (λ x (bytes : IsBytes x) (packet : IsOwnTo (Some own) (Some peer) x). record { bytes = bytes; packet = packet }) waiting
      (made.waiting (now H) peer)
      (subst (λ (o : Option Ip6). AllByRecursion (IsOwnTo o (Some peer)) waiting) has (waiting_is_own s (journal n H) (now H) peer of))
