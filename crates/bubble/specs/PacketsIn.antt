-- The packet in what a node is given, and whom it is from or for.
use Rattle.std.specs.Prelude.{ℕ, List, drop, Option, Some, None, if◌then◌else◌}
use Rattle.td_base.specs.declared.ipv6.Ip6.{Ip6}
use Rattle.ipv6_packet.specs.Reads.{is_packet, fields_in}
use Rattle.bubble.specs.Reads.{is_payload, value_in}

-- the packet in a datagram, where there is one
unfoldable pub packet_in : List ℕ → Option (List ℕ)
packet_in x = if is_payload x then Some (drop (value_in x).lead.at x) else None

-- its source
unfoldable pub source_in : List ℕ → Option Ip6
source_in x = if is_payload x then Some (value_in x).packet.src else None

-- bytes that are a packet
unfoldable pub packet_given : List ℕ → Option (List ℕ)
packet_given x = if is_packet x then Some x else None

-- the packet's destination
unfoldable pub destination_in : List ℕ → Option Ip6
destination_in x = if is_packet x then Some (fields_in x).dst else None
