-- What is told of a record: its node's latest peer, and where the datagram came from that it delivers.
use Rattle.std.specs.Prelude.{ℕ, List, Option, Some, None, option_and_then, slice_get}
use Rattle.td_base.specs.declared.endpoint.Ep.{Ep}
use Rattle.td_base.specs.declared.ipv6.Ip6.{Ip6}
use Rattle.teredo_node.specs.Journal.{Journal}
use Rattle.peer_list.specs.Mentions.{latest_peer}
use Rattle.client_rules.specs.Bearings.{mentions}
use Rattle.relay_rules.specs.Bearings.{relay_mentions}
use Rattle.topology.specs.Rows.{TopologyState}
use Rattle.topology.specs.Topology.{node_at}
use Rattle.topology.specs.declared.node.Node.{Node}
use Rattle.topology.specs.declared.node.Node.TheVariants.{Client as client, Relay as relay}
use Rattle.history.specs.declared.act.Act.{Act}
use Rattle.history.specs.declared.act.Act.TheVariants as act
use Rattle.history.specs.Full.{Item, udp, six, Full}
use Rattle.legal.specs.Past.{journal}

-- the latest peer of a node, by its journal; other nodes have no peers
abbrev pub latest_peer_of : Journal → Option Node → Option Ip6
latest_peer_of j (Some (client c)) = latest_peer (mentions j.entries)
latest_peer_of j (Some (relay q)) = latest_peer (relay_mentions j.entries)
latest_peer_of j _ = None

-- the latest peer of the node of a number after a history, if there is one
abbrev pub latest_at : TopologyState → List Full → Option ℕ → Option Ip6
latest_at t H None = None
latest_at t H (Some n) = latest_peer_of (journal n H) (node_at t n)

-- where an entry of the wire came from; an IPv6 packet came from no endpoint
abbrev pub source_of_item : Item → Option Ep
source_of_item (udp src dst bytes) = Some src
source_of_item (six to bytes) = None

-- where the entry of this wire came from that an act delivers
abbrev pub source_delivered : List Item → Act → Option Ep
source_delivered wire (act.Deliver number) = option_and_then source_of_item (slice_get wire number)
source_delivered wire _ = None
