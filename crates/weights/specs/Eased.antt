-- What can follow from an entry of the wire where relays trust clients: less than its weight says. How much less is a number,
-- the ease: with none all weighs as before, and with the most of it as little as can be.
use Rattle.std.specs.Prelude.{ℕ, ◌+◌, ◌-◌, ◌==◌, ◌&&◌, ◌||◌, if◌then◌else◌, Bool, true, false, List, [], ◌∷◌, sum_by}
use Rattle.std.specs.Prelude.{Option, Some, None, option_and_then}
use Rattle.td_base.specs.declared.endpoint.Ep.{Ep}
use Rattle.td_base.specs.declared.span.Span.{Span}
use Rattle.ipv6_packet.specs.Packets.{Fields}
use Rattle.ipv6_packet.specs.Reads.{fields_in}
use Rattle.bubble.specs.Messages.{message_in, is_echo_reply}
use Rattle.bubble.specs.Reads.{value_in}
use Rattle.teredo_node.specs.Step.{part}
use Rattle.server_core.specs.Server.{server_row}
use Rattle.client_rules.specs.Bearings as client_bearings
use Rattle.relay_rules.specs.Bearings.{relay_mentions}
use Rattle.topology.specs.Rows.{TopologyState}
use Rattle.topology.specs.declared.node.Node.{Node}
use Rattle.topology.specs.declared.node.Node.TheVariants.{Server as server, Client as client, Relay as relay}
use Rattle.topology.specs.Topology.{nodes, node_at, first_passing, is_at, side_at}
use Rattle.history.specs.Full.{Item, udp, six, Full}
use Rattle.legal.specs.Settings.{server_settings}
use Rattle.legal.specs.Past.{now, is_node, journal}
use Rattle.weights.specs.Weights.{packet_weight, datagram_weight, entry_weight}
use Rattle.weights.specs.Burden.{undelivered_items, waiting_packets, client_packet}
use Rattle.weights.specs.Trust.{relay_trusts, host_relay, is_trusted_for}

-- what an eased entry weighs less at most: a reply to a client that its relay trusts never waits for a bubble
abbrev pub EASE_MAX : ℕ
EASE_MAX = 3

-- the weights of the entries that can be eased
abbrev pub REQUEST_WEIGHT : ℕ
REQUEST_WEIGHT = 6

-- what a datagram for a relay weighs
abbrev pub TO_RELAY_WEIGHT : ℕ
TO_RELAY_WEIGHT = 7

-- what a datagram with a packet from outside Teredo weighs, and such a packet that waits
abbrev pub FOREIGN_WEIGHT : ℕ
FOREIGN_WEIGHT = 8

-- PACKETS OF THE IPV6 SIDE

-- an echo request of a client, for a host whose relay trusts it
abbrev pub eases_request : TopologyState → List Full → Fields → Bool
eases_request t H p = (packet_weight false p == REQUEST_WEIGHT) && is_trusted_for t H p.dst p.src

-- from a host of relay n
abbrev pub is_of_relay : TopologyState → ℕ → Fields → Bool
is_of_relay t n p = is_node n (host_relay t p.src)

-- for relay n: an echo reply for a client that it trusts, or anything else of its hosts
abbrev pub eases_for_relay : TopologyState → List Full → ℕ → Fields → Bool
eases_for_relay t H n p = if is_echo_reply (message_in p) then relay_trusts t H n p.dst else is_of_relay t n p

-- DATAGRAMS

-- for a relay from a Teredo address, or for a client from a host whose relay trusts it
abbrev pub eases_datagram : TopologyState → List Full → Fields → (weight : ℕ) → Bool
eases_datagram t H p weight = (weight == TO_RELAY_WEIGHT) || ((weight == FOREIGN_WEIGHT) && is_trusted_for t H p.src p.dst)

-- for a server that gives such a request to a host
abbrev pub eases_output : TopologyState → List Full → List ℕ → Option Span → Bool
eases_output t H x None = false
eases_output t H x (Some span) = eases_request t H (fields_in (part x span))

-- is the datagram eased where it comes to this node?
abbrev pub eases_at : TopologyState → List Full → Ep → Ep → List ℕ → Option Node → Bool
eases_at t H src dst x (Some (server a)) = eases_output t H x (server_row (server_settings a) (side_at (server a) dst) src x).six
eases_at t H src dst x _ = eases_datagram t H (value_in x).packet (datagram_weight t src dst x)

-- THE WEIGHT OF AN ENTRY

-- *eased*, of an entry: the reply that comes of it goes out at the relay at once, since the relay trusts the client, or
-- will by then: it weighs 3 less.
abbrev pub is_eased : TopologyState → List Full → Item → Bool
is_eased t H (udp src dst x) = eases_at t H src dst x (option_and_then (node_at t) (first_passing (is_at dst) t))
is_eased t H (six None x) = eases_request t H (fields_in x)
is_eased t H (six (Some n) x) = eases_for_relay t H n (fields_in x)

-- the weight, less the ease where it is eased
abbrev pub less : (ease : ℕ) → (eased : Bool) → ℕ → ℕ
less ease true weight = weight - ease
less ease false weight = weight

-- *ease*: how much less an eased entry weighs: with none all weighs as by the weights alone, with 3 as little as can
-- be.
-- with this ease
unfoldable pub weight_with : ℕ → TopologyState → List Full → Item → ℕ
weight_with ease t H x = less ease (is_eased t H x) (entry_weight t x)

-- with the most of it
abbrev pub eased_weight : TopologyState → List Full → Item → ℕ
eased_weight t H x = weight_with EASE_MAX t H x

-- WHAT WAITS

-- a packet in relay n
abbrev pub waiting_weight : ℕ → TopologyState → ℕ → List ℕ → ℕ
waiting_weight ease t n x = if is_echo_reply (message_in (fields_in x)) then 1 else less ease (is_of_relay t n (fields_in x)) FOREIGN_WEIGHT

-- in node n
abbrev pub waiting_at : ℕ → TopologyState → List Full → ℕ → Node → ℕ
waiting_at ease t H n (client c) = sum_by client_packet (waiting_packets (client_bearings.mentions (journal n H).entries) (now H))
waiting_at ease t H n (relay r) = sum_by (waiting_weight ease t n) (waiting_packets (relay_mentions (journal n H).entries) (now H))
waiting_at ease t H n _ = 0

-- what waits at these nodes weighs so much, with this ease
abbrev pub waiting_from : ℕ → TopologyState → List Full → ℕ → List Node → ℕ
waiting_from ease t H n [] = 0
waiting_from ease t H n (a ∷ rest) = waiting_at ease t H n a + waiting_from ease t H (n + 1) rest

-- WHAT CAN FOLLOW

-- from everything that is undelivered or waits, with this ease
abbrev pub burden_with : ℕ → TopologyState → List Full → ℕ
burden_with ease t H = sum_by (weight_with ease t H) (undelivered_items H) + waiting_from ease t H 0 (nodes t)

-- and with the most of it
abbrev pub eased_burden : TopologyState → List Full → ℕ
eased_burden t H = burden_with EASE_MAX t H
