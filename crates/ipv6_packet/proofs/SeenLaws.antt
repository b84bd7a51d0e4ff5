-- Packets as rules see them.
use Rattle.ipv6_packet.proofs.Words.{Err, Fields, IsBytes, IsPacket, List, Ok, PacketBytes, PacketFault, Result, ap, fields_in, fields_or, is_ok_packet, is_packet, packet_at, packet_bytes, refl, true, ℕ, ◌≡◌}
use Rattle.ipv6_packet.proofs.PacketLaws.{packet_found, packet_again}

-- what is written is seen as it was
pub packet_seen : (v : Fields) → IsPacket v → (is_packet (packet_bytes v) ≡ true) × (fields_in (packet_bytes v) ≡ v)
unfolding is_packet fields_in
packet_seen v fits = let again = packet_again v fits in (ap is_ok_packet again, ap fields_or again)

by_answer : (x : List ℕ) (r : Result Fields PacketFault) → packet_at x ≡ r → IsBytes x → is_ok_packet r ≡ true → PacketBytes (fields_or r) x
by_answer x (Ok v) e fits is = packet_found x v fits e
by_answer x (Err f) e fits is = absurd cc

-- what is seen is spelled so
pub seen_packet : (x : List ℕ) → IsBytes x → is_packet x ≡ true → PacketBytes (fields_in x) x
unfolding is_packet fields_in
seen_packet x fits is = by_answer x (packet_at x) refl fits is
