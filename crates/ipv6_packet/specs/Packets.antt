-- IPv6 packets as lists of bytes: RFC 8200, section 3.
use Rattle.std.specs.Prelude.{◌≡◌, ◌≢◌, ◌≤◌, ℕ, ◌+◌, ◌-◌, ◌*◌, ◌/◌, ◌%◌, ◌^◌, ◌<◌, List, [], ◌∷◌, ◌++◌, length, take}
use Rattle.std.specs.Prelude.{drop, slice_index, Result, Ok, Err, nat_lt, ◌==◌, not, if◌then◌else◌}
use Rattle.byteorder.specs.Endian.{big_bytes}
use Rattle.td_base.specs.Bytes.{number_at}
use Rattle.td_base.specs.Ip6.{IsIp6}
use Rattle.td_base.specs.declared.ipv6.Ip6.{Ip6}
use Rattle.ipv6_packet.specs.declared.header.Packet.{Packet}
use Rattle.ipv6_packet.specs.declared.header.TheConstants.{HEADER, VERSION}
use Rattle.ipv6_packet.specs.declared.fault.PacketFault.{PacketFault}
use Rattle.ipv6_packet.specs.declared.fault.PacketFault.TheVariants.{Short, Version, Length}

-- a packet without where its body lies in memory
pub record Fields : Type 0 where
  pub class : ℕ
  pub flow : ℕ
  pub next : ℕ
  pub hop : ℕ
  pub src : Ip6
  pub dst : Ip6
  pub body : List ℕ

-- a packet without where its body lies in memory
abbrev pub packet_view : Packet → Fields
packet_view p = record { class = p.class; flow = p.flow; next = p.next; hop = p.hop; src = p.src; dst = p.dst; body = p.body.now }

-- what has a spelling
pub record IsPacket (v : Fields) : Type 0 where
  pub class : v.class < 2 ^ 8
  pub flow : v.flow < 2 ^ 20
  pub next : v.next < 2 ^ 8
  pub hop : v.hop < 2 ^ 8
  pub src : IsIp6 v.src
  pub dst : IsIp6 v.dst
  pub body : length v.body < 2 ^ 16

-- The one spelling of a packet: version in 4 bits, class in 8 and flow in 20; the body's length in 16;
-- next header and hop limit in 8 each; source, destination and body.
unfoldable pub packet_bytes : Fields → List ℕ
packet_bytes v =
    big_bytes 4 (VERSION * 2 ^ 28 + v.class * 2 ^ 20 + v.flow) ++ big_bytes 2 (length v.body) ++ v.next ∷ v.hop ∷ [] ++ v.src.0 ++ v.dst.0 ++ v.body

-- *format*: a relation between a value and a list of bytes: which bytes are that value's. A list has one value at most.
-- x is the bytes of the packet v
abbrev pub PacketBytes : Fields → List ℕ → Type 0
PacketBytes v x = IsPacket v × (x ≡ packet_bytes v)

-- *fault*: what is wrong with a list that has no value: the first of the faults, in the order of `docs/RULES.md`, that
-- applies.
-- the fault is the first one of x: its condition holds, and none before it does
abbrev pub IsFirstPacketFault : PacketFault → List ℕ → Type 0
IsFirstPacketFault (Short len) x = (len ≡ length x) × (len < HEADER)
IsFirstPacketFault (Version nibble) x = (HEADER ≤ length x) × (nibble ≡ slice_index x 0 / 16) × (nibble ≢ VERSION)
IsFirstPacketFault (Length said there) x = (HEADER + there ≡ length x) × (slice_index x 0 / 16 ≡ VERSION) × (said ≡ number_at 4 2 x) × (said ≢ there)

-- what stands at the places of the header, and behind it
unfoldable pub fields_of : List ℕ → Fields
fields_of x = record {
  class = number_at 0 4 x / 2 ^ 20 % 2 ^ 8;
  flow = number_at 0 4 x % 2 ^ 20;
  next = slice_index x 6;
  hop = slice_index x 7;
  src = record { 0 = take 16 (drop 8 x) };
  dst = record { 0 = take 16 (drop 24 x) };
  body = drop HEADER x;
}

-- the packet that x spells, or the first fault
unfoldable pub packet_at : List ℕ → Result Fields PacketFault
packet_at x =
    if nat_lt (length x) HEADER then Err (Short (length x))
    else if not (number_at 0 4 x / 2 ^ 28 == VERSION) then Err (Version (number_at 0 4 x / 2 ^ 28))
    else if not (number_at 4 2 x == length x - HEADER) then Err (Length (number_at 4 2 x) (length x - HEADER))
    else Ok (fields_of x)
