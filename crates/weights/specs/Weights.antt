-- What can follow from an entry of the wire, itself counted: how many deliveries, at most. A weight looks at the entry and
-- the topology alone.
use Rattle.std.specs.Prelude.{ℕ, ◌+◌, ◌&&◌, ◌||◌, not, if◌then◌else◌, Bool, true, false, List, [], ◌∷◌, sum_by}
use Rattle.std.specs.Prelude.{is_some, Option, Some, None, option_and_then}
use Rattle.std.specs.List.{list_any}
use Rattle.td_base.specs.declared.endpoint.Ep.{Ep}
use Rattle.td_base.specs.declared.span.Span.{Span}
use Rattle.td_base.specs.Ip4.{same_ip}
use Rattle.td_base.specs.Ep.{same_ep, server_ep}
use Rattle.td_base.specs.Reach.{is_global6}
use Rattle.ipv6_packet.specs.Packets.{Fields}
use Rattle.ipv6_packet.specs.Reads.{fields_in}
use Rattle.icmp6.specs.Message.{Message, echo_request}
use Rattle.teredo_addr.specs.Teredo.{is_teredo}
use Rattle.indications.specs.Leads.{origin_in}
use Rattle.bubble.specs.Payloads.{Value}
use Rattle.bubble.specs.Bubbles.{is_bubble}
use Rattle.bubble.specs.Messages.{message_in, is_echo_reply}
use Rattle.bubble.specs.Reads.{is_payload, value_in}
use Rattle.teredo_node.specs.Step.{Send, Step, part}
use Rattle.teredo_node.specs.Rows.{first_line}
use Rattle.server_core.specs.Server.{server_row}
use Rattle.topology.specs.Rows.{TopologyState}
use Rattle.topology.specs.declared.node.Node.{Node}
use Rattle.topology.specs.declared.node.Node.TheVariants.{Server as server, Nat as nat, Relay as relay}
use Rattle.topology.specs.Topology.{nodes, node_at, first_passing, is_at, side_at, own_ep}
use Rattle.history.specs.Full.{Item, udp, six}
use Rattle.legal.specs.Settings.{server_settings}

-- no weight is greater
abbrev pub WEIGHT_MAX : ℕ
WEIGHT_MAX = 12

-- and none of a datagram to a server
abbrev pub SERVED_WEIGHT_MAX : ℕ
SERVED_WEIGHT_MAX = 9

-- WHOSE AN ENDPOINT IS

-- is it a server with this endpoint?
abbrev pub is_server_at : Ep → Node → Bool
is_server_at ep (server a) = same_ep ep (server_ep a.primary) || same_ep ep (server_ep a.secondary)
is_server_at ep _ = false

-- is it a NAT with the endpoint's address?
abbrev pub is_nat_at : Ep → Node → Bool
is_nat_at ep (nat a) = same_ip ep.ip a.external
is_nat_at ep _ = false

-- is it a relay with this endpoint?
abbrev pub is_relay_at : Ep → Node → Bool
is_relay_at ep (relay r) = same_ep ep r.at
is_relay_at ep _ = false

-- is the endpoint one of a server?
abbrev pub is_some_server : TopologyState → Ep → Bool
is_some_server t ep = list_any (is_server_at ep) (nodes t)

-- is the origin an endpoint of a server?
abbrev pub is_origin_at_server : TopologyState → Option Ep → Bool
is_origin_at_server t None = false
is_origin_at_server t (Some o) = is_some_server t o

-- PACKETS OF THE IPV6 SIDE

-- is it an echo request?
abbrev pub is_echo_request : Option Message → Bool
is_echo_request (Some (echo_request id seq body)) = true
is_echo_request _ = false

-- for a relay, or without one
abbrev pub packet_weight : (to_relay : Bool) → Fields → ℕ
packet_weight to_relay p = first_line
    ((to_relay && is_echo_reply (message_in p), 5)
    ∷ (to_relay, 12)
    ∷ (is_echo_request (message_in p) && is_teredo p.src, 6)
    ∷ (is_echo_request (message_in p) && is_global6 p.src, 2)
    ∷ [])
    1

-- DATAGRAMS THAT AREN'T FOR A SERVER

-- what the lines ask of one with this payload, in their order
pub record Freight : Type 0 where
  pub indirect : Bool  -- a bubble with an origin, from a server to a NAT
  pub origin_at_server : Bool
  pub foreign : Bool  -- to a NAT, from outside Teredo, and neither a bubble nor an echo reply
  pub for_relay : Bool  -- to a relay, from a Teredo address, and no bubble

-- what the weight of a datagram looks at
abbrev pub freight : TopologyState → Ep → Ep → Bool → Value → Freight
freight t src dst payload v =
    let p = v.packet in
    let to_nat = payload && list_any (is_nat_at dst) (nodes t) in
    record {
      indirect = to_nat && (is_some_server t src && (is_bubble p && is_some (origin_in v.lead)));
      origin_at_server = is_origin_at_server t (origin_in v.lead);
      foreign = to_nat && (is_global6 p.src && (not (is_teredo p.src) && (not (is_bubble p) && not (is_echo_reply (message_in p)))));
      for_relay = payload && (list_any (is_relay_at dst) (nodes t) && (is_teredo p.src && not (is_bubble p)));
    }

-- the weight by what is looked at
abbrev pub freight_weight : Freight → ℕ
freight_weight a = first_line
    ((a.indirect && a.origin_at_server, 3)
    ∷ (a.indirect, 2)
    ∷ (a.foreign, 8)
    ∷ (a.for_relay, 7)
    ∷ [])
    1

-- how many deliveries can follow from a datagram, its own counted
unfoldable pub datagram_weight : TopologyState → Ep → Ep → List ℕ → ℕ
datagram_weight t src dst x = freight_weight (freight t src dst (is_payload x) (value_in x))

-- DATAGRAMS FOR A SERVER

-- what it sends: a server drops what another server sends it
abbrev pub send_weight : TopologyState → Node → Send → ℕ
send_weight t a s = if is_some_server t s.to then 1 else datagram_weight t (own_ep a s.side) s.to s.bytes

-- the packet that it gives to the IPv6 side
abbrev pub six_weight : List ℕ → Option Span → ℕ
six_weight x None = 0
six_weight x (Some span) = packet_weight false (fields_in (part x span))

-- what a node's sends and its packet for the IPv6 side weigh together
abbrev pub output_weight : TopologyState → Node → List ℕ → Step → ℕ
output_weight t a x step = sum_by (send_weight t a) step.sends + six_weight x step.six

-- one more than its output
abbrev pub weight_at : TopologyState → Ep → Ep → List ℕ → Option Node → ℕ
weight_at t src dst x (Some (server a)) = 1 + output_weight t (server a) x (server_row (server_settings a) (side_at (server a) dst) src x)
weight_at t src dst x _ = datagram_weight t src dst x

-- THE WEIGHT OF AN ENTRY

-- *weight of an entry*: how many deliveries can follow from it, itself counted: 1 to 12, by the entry and the topology
-- alone.
abbrev pub entry_weight : TopologyState → Item → ℕ
entry_weight t (udp src dst x) = weight_at t src dst x (option_and_then (node_at t) (first_passing (is_at dst) t))
entry_weight t (six None x) = packet_weight false (fields_in x)
entry_weight t (six (Some r) x) = packet_weight true (fields_in x)
