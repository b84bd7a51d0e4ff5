-- What is on the wire, and what nodes were given, are bytes that fit into a datagram, between endpoints that datagrams have. What
-- is on its way on the IPv6 side is a packet, for a relay that is there, or for none.
use Rattle.std.specs.Prelude.{◌≡◌, ◌≤◌, ℕ, true, List, length, is_some, IfSome}
use Rattle.std.specs.List.{AllByRecursion}
use Rattle.td_base.specs.Bytes.{IsBytes}
use Rattle.td_base.specs.Ep.{IsEp}
use Rattle.td_base.specs.declared.datagram.TheConstants.{DATAGRAM_MAX}
use Rattle.ipv6_packet.specs.Reads.{is_packet}
use Rattle.teredo_node.specs.MadeInputs.{AreMadeInputs}
use Rattle.topology.specs.Rows.{TopologyState}
use Rattle.topology.specs.Rules.{IsTopology}
use Rattle.topology.specs.Topology.{relay_at}
use Rattle.history.specs.Full.{Item, udp, six, Full, wire, bytes_of}
use Rattle.legal.specs.Lab.{Lab}
use Rattle.legal.specs.Past.{journal}
use Rattle.legal.specs.Legal.{Grown}

-- a datagram's source, if it has one
abbrev pub HasMadeSource : Item → Type 0
HasMadeSource (udp src dst bytes) = IsEp src
HasMadeSource (six relay bytes) = Unit {0}

-- and its destination
abbrev pub HasMadeDestination : Item → Type 0
HasMadeDestination (udp src dst bytes) = IsEp dst
HasMadeDestination (six relay bytes) = Unit {0}

-- an entry of the wire is bytes that fit into a datagram, between endpoints that datagrams have
pub record IsMadeItem (x : Item) : Type 0 where
  pub source : HasMadeSource x
  pub destination : HasMadeDestination x
  pub bytes : IsBytes (bytes_of x)
  pub short : length (bytes_of x) ≤ DATAGRAM_MAX

-- on the IPv6 side, a packet
abbrev pub IsPacketItem : Item → Type 0
IsPacketItem (udp src dst bytes) = Unit {0}
IsPacketItem (six relay bytes) = is_packet bytes ≡ true

-- the relay that a packet of the IPv6 side is for, if it is for one
abbrev pub NamesRelay : TopologyState → Item → Type 0
NamesRelay t (udp src dst bytes) = Unit {0}
NamesRelay t (six relay bytes) = IfSome relay (λ (n : ℕ). is_some (relay_at t n) ≡ true)

-- all of the wire, and all that nodes were given, are bytes
pub record IsMadeHistory (lab : Lab) (H : List Full) : Type 0 where
  pub relays : AllByRecursion (NamesRelay lab.topology) (wire H)
  pub packets : AllByRecursion IsPacketItem (wire H)
  pub wire : AllByRecursion IsMadeItem (wire H)
  pub journals : (n : ℕ) → AreMadeInputs (journal n H).entries

-- what is on the wire, and what nodes were given, are bytes that fit into a datagram, between endpoints that datagrams
-- have; what is on its way on the IPv6 side is a packet, for a relay that is there, or for none
abbrev pub EachHistoryIsMade : Type 0
EachHistoryIsMade = (lab : Lab) (H : List Full) → IsTopology lab.topology → Grown lab H → IsMadeHistory lab H
