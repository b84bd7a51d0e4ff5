-- What a rule sees of the bytes of a packet.
use Rattle.std.specs.Prelude.{ℕ, ◌+◌, Bool, true, false, nat_lt, List, [], length, replicate, Result, Ok, Err}
use Rattle.ipv6_packet.specs.declared.fault.PacketFault.{PacketFault}
use Rattle.ipv6_packet.specs.declared.header.TheConstants.{HEADER, PACKET_MAX}
use Rattle.ipv6_packet.specs.Packets.{Fields, packet_at}

-- in place of what isn't there; no rule looks at it
abbrev pub no_fields : Fields
no_fields = record { class = 0; flow = 0; next = 0; hop = 0; src = record { 0 = replicate 16 0 }; dst = record { 0 = replicate 16 0 }; body = [] }

-- was a packet read?
abbrev pub is_ok_packet : Result Fields PacketFault → Bool
is_ok_packet (Ok v) = true
is_ok_packet (Err e) = false

-- the packet that was read, or one without anything
abbrev pub fields_or : Result Fields PacketFault → Fields
fields_or (Ok v) = v
fields_or (Err e) = no_fields

-- whether x spells a packet
unfoldable pub is_packet : List ℕ → Bool
is_packet x = is_ok_packet (packet_at x)

-- the packet that x spells
unfoldable pub fields_in : List ℕ → Fields
fields_in x = fields_or (packet_at x)

-- more bytes than every link carries whole
unfoldable pub is_big : Fields → Bool
is_big p = nat_lt PACKET_MAX (HEADER + length p.body)
