-- The bytes of a packet that a host handed in, and of the reply to one, computed, beside those that were made without the definitions.
use Rattle.worked_lines.proofs.Words.{Packet, ReplyTo, Some, [], bytes_of_load, refl, ◌∷◌, ◌≡◌}
use Rattle.worked_lines.proofs.Homes.{played}
use Rattle.worked_lines.proofs.LostFacts.{lost_followed, answered_twice_followed}
use Rattle.worked_lines.proofs.Telling.{telling}

-- from the one client to the other, a byte of data behind a header that no node knows: version 6, a length of 1, next header 253,
-- hop limit 64, and both addresses, in which the server is 192.0.2.1, the cone bit is set, and port 1024 and the NAT's address
-- stand in other bits
pub lost_followed-bytes : bytes_of_load (played lost_followed []) (Packet 0)
    ≡ Some (0x60 ∷ 0 ∷ 0 ∷ 0 ∷ 0 ∷ 1 ∷ 253 ∷ 64
    ∷ 0x20 ∷ 1 ∷ 0 ∷ 0 ∷ 0xc0 ∷ 0 ∷ 2 ∷ 1 ∷ 0x80 ∷ 0 ∷ 0xfb ∷ 0xff ∷ 0x39 ∷ 0xcc ∷ 0x9b ∷ 0xfe
    ∷ 0x20 ∷ 1 ∷ 0 ∷ 0 ∷ 0xc0 ∷ 0 ∷ 2 ∷ 1 ∷ 0x80 ∷ 0 ∷ 0xfb ∷ 0xff ∷ 0x39 ∷ 0xcc ∷ 0x9b ∷ 0xfd
    ∷ 1 ∷ [])
unfolding telling
lost_followed-bytes = refl

-- from the native host 2001:db8::1 to the client, the reply to its echo request: version 6, a length of 8, next header 58, hop limit
-- 64, both addresses, and an echo reply with its checksum, identifier 1 and sequence number 7
pub answered_twice_followed-bytes : bytes_of_load (played answered_twice_followed []) (ReplyTo 0)
    ≡ Some (0x60 ∷ 0 ∷ 0 ∷ 0 ∷ 0 ∷ 8 ∷ 58 ∷ 64
    ∷ 0x20 ∷ 1 ∷ 0xd ∷ 0xb8 ∷ 0 ∷ 0 ∷ 0 ∷ 0 ∷ 0 ∷ 0 ∷ 0 ∷ 0 ∷ 0 ∷ 0 ∷ 0 ∷ 1
    ∷ 0x20 ∷ 1 ∷ 0 ∷ 0 ∷ 0xc0 ∷ 0 ∷ 2 ∷ 1 ∷ 0x80 ∷ 0 ∷ 0xfb ∷ 0xff ∷ 0x39 ∷ 0xcc ∷ 0x9b ∷ 0xfe
    ∷ 0x81 ∷ 0 ∷ 0x1d ∷ 0x2d ∷ 0 ∷ 1 ∷ 0 ∷ 7 ∷ [])
unfolding telling
answered_twice_followed-bytes = refl
