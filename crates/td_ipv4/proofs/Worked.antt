-- Datagrams of a solicitation and of its answer, from a capture that was worked out by hand.
use Rattle.td_ipv4.proofs.Words.{Ep, Err, List, Ok, Short, [], head_checksum, made_bytes, made_udp4, refl, replicate, take, udp4_at, udp4_bytes, udp4_fields, udp_checksum, udp_fault, udp_place, ℕ, ◌++◌, ◌∷◌, ◌≡◌}

-- 198.51.100.7:40000
abbrev host : Ep
host = record { ip = record { 0 = 198 ∷ 51 ∷ 100 ∷ 7 ∷ [] }; port = 40000 }

-- 192.0.2.1:3544
abbrev server : Ep
server = record { ip = record { 0 = 192 ∷ 0 ∷ 2 ∷ 1 ∷ [] }; port = 3544 }

-- a solicitation behind a nonce
abbrev solicitation : List ℕ
solicitation =
    0x00 ∷ 0x01 ∷ 0 ∷ 0 ∷ 1 ∷ 2 ∷ 3 ∷ 4 ∷ 5 ∷ 6 ∷ 7 ∷ 8 ∷ 0
    ∷ 0x60 ∷ 0 ∷ 0 ∷ 0 ∷ 0 ∷ 8 ∷ 0x3a ∷ 0xff
    ∷ 0xfe ∷ 0x80 ∷ 0 ∷ 0 ∷ 0 ∷ 0 ∷ 0 ∷ 0 ∷ 0 ∷ 0 ∷ 0x63 ∷ 0xbf ∷ 0x39 ∷ 0xcc ∷ 0x9b ∷ 0xf8
    ∷ 0xff ∷ 0x02 ∷ 0 ∷ 0 ∷ 0 ∷ 0 ∷ 0 ∷ 0 ∷ 0 ∷ 0 ∷ 0 ∷ 0 ∷ 0 ∷ 0 ∷ 0 ∷ 2
    ∷ 0x85 ∷ 0 ∷ 0x43 ∷ 0xb3 ∷ 0 ∷ 0 ∷ 0 ∷ 0 ∷ []

abbrev solicitation_heads : List ℕ
solicitation_heads =
    0x45 ∷ 0 ∷ 0 ∷ 0x59 ∷ 0 ∷ 0 ∷ 0 ∷ 0 ∷ 0x40 ∷ 0x11 ∷ 0x8e ∷ 0x58 ∷ 0xc6 ∷ 0x33 ∷ 0x64 ∷ 0x07 ∷ 0xc0 ∷ 0 ∷ 2 ∷ 1
    ∷ 0x9c ∷ 0x40 ∷ 0x0d ∷ 0xd8 ∷ 0 ∷ 0x45 ∷ 0x93 ∷ 0x5f ∷ []

solicitation_is_made : made_bytes host server solicitation ≡ solicitation_heads ++ solicitation
unfolding udp4_bytes head_checksum udp_checksum made_udp4 made_bytes
solicitation_is_made = refl

-- the header of any body of 117 bytes, in which no byte of it counts
answer_head : take 20 (made_bytes server host (replicate 117 0)) ≡ 0x45 ∷ 0 ∷ 0 ∷ 0x91 ∷ 0 ∷ 0 ∷ 0 ∷ 0 ∷ 0x40 ∷ 0x11 ∷ 0x8e ∷ 0x20 ∷ 0xc0 ∷ 0 ∷ 2 ∷ 1 ∷ 0xc6 ∷ 0x33 ∷ 0x64 ∷ 0x07 ∷ []
unfolding udp4_bytes head_checksum made_udp4 made_bytes
answer_head = refl

solicitation_is_read : udp4_at (solicitation_heads ++ solicitation) ≡ Ok (made_udp4 host server solicitation)
unfolding udp_place udp_fault udp4_fields udp4_at head_checksum udp_checksum made_udp4
solicitation_is_read = refl

nothing_is_short : udp4_at [] ≡ Err (Short 0)
unfolding udp_place udp4_at
nothing_is_short = refl
