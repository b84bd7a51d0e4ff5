-- Packets as lists of bytes: they read back, and what is read is spelled so.
use Rattle.std.specs.Prelude.{◌≡◌, ◌+◌, ℕ, List, length, true, Ok}
use Rattle.td_base.specs.Bytes.{IsBytes}
use Rattle.ipv6_packet.specs.declared.header.TheConstants.{HEADER}
use Rattle.ipv6_packet.specs.Packets.{Fields, IsPacket, PacketBytes, packet_bytes, packet_at}
use Rattle.ipv6_packet.specs.Reads.{is_packet, fields_in}

-- x is read as the packet v
pub record ReadsPacket (v : Fields) (x : List ℕ) : Type 0 where
  pub read : packet_at x ≡ Ok v
  pub is_one : is_packet x ≡ true
  pub fields : fields_in x ≡ v

-- a spelling is read as the packet
abbrev pub PacketReadsBack : Type 0
PacketReadsBack = (v : Fields) → IsPacket v → ReadsPacket v (packet_bytes v)

-- bytes that are a packet are its spelling
abbrev pub PacketIsSpelled : Type 0
PacketIsSpelled = (x : List ℕ) → IsBytes x → is_packet x ≡ true → PacketBytes (fields_in x) x

-- a spelling is bytes, where the body is: the header and the body
pub record IsPacketLong (v : Fields) (x : List ℕ) : Type 0 where
  pub long : length x ≡ HEADER + length v.body
  pub bytes : IsBytes v.body → IsBytes x

-- the spelling of a packet is the header's bytes and the body's
abbrev pub PacketIsBytes : Type 0
PacketIsBytes = (v : Fields) → IsPacket v → IsPacketLong v (packet_bytes v)
