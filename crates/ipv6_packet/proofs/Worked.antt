-- Bytes that were worked out by hand, and what is read of them.
use Rattle.ipv6_packet.proofs.Words.{Err, Fields, List, Ok, Short, [], fields_of, packet_at, packet_bytes, refl, ℕ, ◌∷◌, ◌≡◌}

-- a bubble from 2001:0:4136:e378:8000:63bf:3fff:fdd2 to 2001:0:4136:e378:0:63bf:39cc:9bf8
abbrev pub bubble_bytes : List ℕ
bubble_bytes =
    0x60 ∷ 0 ∷ 0 ∷ 0 ∷ 0 ∷ 0 ∷ 0x3b ∷ 0xff
    ∷ 0x20 ∷ 0x01 ∷ 0 ∷ 0 ∷ 0x41 ∷ 0x36 ∷ 0xe3 ∷ 0x78 ∷ 0x80 ∷ 0 ∷ 0x63 ∷ 0xbf ∷ 0x3f ∷ 0xff ∷ 0xfd ∷ 0xd2
    ∷ 0x20 ∷ 0x01 ∷ 0 ∷ 0 ∷ 0x41 ∷ 0x36 ∷ 0xe3 ∷ 0x78 ∷ 0 ∷ 0 ∷ 0x63 ∷ 0xbf ∷ 0x39 ∷ 0xcc ∷ 0x9b ∷ 0xf8 ∷ []

abbrev pub bubble_fields : Fields
bubble_fields = record {
  class = 0;
  flow = 0;
  next = 59;
  hop = 255;
  src = record { 0 = 0x20 ∷ 0x01 ∷ 0 ∷ 0 ∷ 0x41 ∷ 0x36 ∷ 0xe3 ∷ 0x78 ∷ 0x80 ∷ 0 ∷ 0x63 ∷ 0xbf ∷ 0x3f ∷ 0xff ∷ 0xfd ∷ 0xd2 ∷ [] };
  dst = record { 0 = 0x20 ∷ 0x01 ∷ 0 ∷ 0 ∷ 0x41 ∷ 0x36 ∷ 0xe3 ∷ 0x78 ∷ 0 ∷ 0 ∷ 0x63 ∷ 0xbf ∷ 0x39 ∷ 0xcc ∷ 0x9b ∷ 0xf8 ∷ [] };
  body = [];
}

pub bubble_is_read : packet_at bubble_bytes ≡ Ok bubble_fields
unfolding packet_at fields_of
bubble_is_read = refl

pub bubble_is_spelled : packet_bytes bubble_fields ≡ bubble_bytes
unfolding packet_bytes
bubble_is_spelled = refl

pub nothing_is_short : packet_at [] ≡ Err (Short 0)
unfolding packet_at
nothing_is_short = refl
