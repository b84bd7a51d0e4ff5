-- The packets that wait in the nodes, by what is kept of them.
use Rattle.std.specs.Prelude.{◌≡◌, ℕ, List, [], flat_map, map, sum}
use Rattle.peer_list.specs.Peers.{Peer}
use Rattle.relay_core.specs.Relay.{relay_listed_peers}
use Rattle.client_core.specs.Client.{listed_peers}
use Rattle.history.specs.Full.{Full}
use Rattle.legal.specs.Lab.{Lab}
use Rattle.legal.specs.Past.{now}
use Rattle.weights.specs.Burden.{client_packet, relay_packet}
use Rattle.weights.specs.Burden as past
use Rattle.lab_nodes.specs.declared.played_node.PlayedNode.{PlayedNode}
use Rattle.lab_nodes.specs.declared.played_node.PlayedNode.TheVariants as played
use Rattle.lab_nodes.specs.PlayedNode.{NodesOf, AreReady}

-- those that wait for these peers
abbrev pub peers_packets : List Peer → List (List ℕ)
peers_packets peers = flat_map (λ (peer : Peer). peer.waiting) peers

-- their weights in a node
abbrev pub played_waits_at : ℕ → PlayedNode → List ℕ
played_waits_at m (played.Client row is) = map client_packet (peers_packets (listed_peers is m))
played_waits_at m (played.Relay row is) = map relay_packet (peers_packets (relay_listed_peers is m))
played_waits_at m _ = []

-- in all nodes
abbrev pub played_waits : ℕ → List PlayedNode → List ℕ
played_waits m list = flat_map (played_waits_at m) list

-- together they are those of the packets that wait by the nodes' pasts
abbrev pub EachWaitsAsInThePast : Type 0
EachWaitsAsInThePast = (lab : Lab) (list : List PlayedNode) (H : List Full) → NodesOf lab list H → AreReady (now H) list
    → sum (played_waits (now H) list) ≡ sum (past.waits lab.topology H)
