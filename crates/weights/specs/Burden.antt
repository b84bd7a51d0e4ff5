-- What can follow from all that is undelivered, and from all packets that wait.
use Rattle.std.specs.Prelude.{◌+◌, ◌*◌, if◌then◌else◌, ℕ, List, [], ◌∷◌, ◌++◌, length, map, flat_map, sum, sum_by}
use Rattle.td_base.specs.declared.ipv6.Ip6.{Ip6}
use Rattle.ipv6_packet.specs.Reads.{fields_in}
use Rattle.bubble.specs.Messages.{message_in, is_echo_reply}
use Rattle.peer_list.specs.Mentions.{Mention}
use Rattle.peer_list.specs.Listed.{listed}
use Rattle.peer_list.specs.Peers.{known}
use Rattle.client_rules.specs.Bearings as client_bearings
use Rattle.relay_rules.specs.Bearings.{relay_mentions}
use Rattle.topology.specs.Rows.{TopologyState}
use Rattle.topology.specs.declared.node.Node.{Node}
use Rattle.topology.specs.declared.node.Node.TheVariants.{Client as client, Relay as relay}
use Rattle.topology.specs.Topology.{nodes}
use Rattle.history.specs.Full.{Item, Full, wire}
use Rattle.legal.specs.Past.{now, journal, was_delivered}
use Rattle.weights.specs.Weights.{entry_weight, WEIGHT_MAX}

-- WHAT IS UNDELIVERED

-- of these entries, which are numbered from i on, those that were never delivered
abbrev pub undelivered_from : List Full → ℕ → List Item → List Item
undelivered_from H i [] = []
undelivered_from H i (x ∷ xs) = if was_delivered i H then undelivered_from H (i + 1) xs else x ∷ undelivered_from H (i + 1) xs

-- the entries of the wire that were never delivered
abbrev pub undelivered_items : List Full → List Item
undelivered_items H = undelivered_from H 0 (wire H)

-- WHAT WAITS: packets that are held are none of these

-- the packets that wait for all listed peers, as a journal mentions them, at a moment
abbrev pub waiting_packets : List Mention → ℕ → List (List ℕ)
waiting_packets j m = flat_map (λ (p : Ip6). (known j m p).waiting) (listed j m)

-- the weight of one that waits in a client
abbrev pub client_packet : List ℕ → ℕ
client_packet x = 8

-- and of one in a relay
abbrev pub relay_packet : List ℕ → ℕ
relay_packet x = if is_echo_reply (message_in (fields_in x)) then 1 else 8

-- the weights of the packets that wait in node n
abbrev pub waits_at : List Full → ℕ → Node → List ℕ
waits_at H n (client c) = map client_packet (waiting_packets (client_bearings.mentions (journal n H).entries) (now H))
waits_at H n (relay r) = map relay_packet (waiting_packets (relay_mentions (journal n H).entries) (now H))
waits_at H n _ = []

-- how much waits at each of these nodes
abbrev pub waits_from : List Full → ℕ → List Node → List ℕ
waits_from H n [] = []
waits_from H n (a ∷ rest) = waits_at H n a ++ waits_from H (n + 1) rest

-- in all nodes
abbrev pub waits : TopologyState → List Full → List ℕ
waits t H = waits_from H 0 (nodes t)

-- WHAT CAN FOLLOW

-- *what can follow*: the weights of all entries that were never delivered, and of all packets that wait: 8 each, but 1
-- for an echo reply at a relay.
-- *left*, of a `settle`: what can follow from all that is undelivered or waits; each of its deliveries lowers it.
-- from everything that is undelivered or waits
abbrev pub burden : TopologyState → List Full → ℕ
burden t H = sum_by (entry_weight t) (undelivered_items H) + sum (waits t H)

-- no more than so much
abbrev pub burden_most : TopologyState → List Full → ℕ
burden_most t H = WEIGHT_MAX * (length (undelivered_items H) + length (waits t H))
