-- Packets as lists of bytes.
use Rattle.ipv6_packet.proofs.Words.{AreBytes, Fields, IsBytes, IsBytes-append, IsPacket, List, PacketIsBytes, PacketIsSpelled, PacketReadsBack, VERSION, [], big_bytes, byte_first, length, no_bytes, number_first, packet_bytes, ℕ, ◌*◌, ◌++◌, ◌+◌, ◌^◌, ◌∷◌}
use Rattle.ipv6_packet.proofs.PacketLaws.{packet_again, packet_len}
use Rattle.ipv6_packet.proofs.SeenLaws.{packet_seen, seen_packet}

pub packet_reads_back : PacketReadsBack
packet_reads_back v fits = let seen = packet_seen v fits in record { read = packet_again v fits; is_one = seen.0; fields = seen.1 }

pub packet_is_spelled : PacketIsSpelled
packet_is_spelled = seen_packet

bytes : (v : Fields) → IsPacket v → IsBytes v.body → IsBytes (packet_bytes v)
unfolding packet_bytes
bytes v fits body =
    let word : ℕ = VERSION * 2 ^ 28 + v.class * 2 ^ 20 + v.flow in
    let head : List ℕ = big_bytes 4 word ++ big_bytes 2 (length v.body) ++ v.next ∷ v.hop ∷ [] in
    let made : AreBytes head = number_first 4 word (number_first 2 (length v.body) (byte_first v.next fits.next (byte_first v.hop fits.hop no_bytes))) in
    IsBytes-append (head ++ v.src.0 ++ v.dst.0) v.body (IsBytes-append (head ++ v.src.0) v.dst.0 (IsBytes-append head v.src.0 made.each fits.src.1) fits.dst.1) body

pub packet_is_bytes : PacketIsBytes
packet_is_bytes v fits = record { long = packet_len v fits.src.0 fits.dst.0; bytes = bytes v fits }
