-- All due moments of the nodes, by what is kept of them.
use Rattle.std.specs.Prelude.{◌≡◌, ℕ, List, [], ◌++◌, flat_map, sum_by, option_to_list}
use Rattle.relay_core.specs.Relay.{relay_listed_peers}
use Rattle.client_core.specs.Client.{own_due, listed_peers}
use Rattle.topology.specs.Topology.{nodes}
use Rattle.history.specs.Full.{Full}
use Rattle.legal.specs.Lab.{Lab}
use Rattle.legal.specs.Past.{now}
use Rattle.legal.specs.Left.{waits_until}
use Rattle.legal.specs.Left as legal
use Rattle.lab_nodes.specs.declared.played_node.PlayedNode.{PlayedNode}
use Rattle.lab_nodes.specs.declared.played_node.PlayedNode.TheVariants as played
use Rattle.lab_nodes.specs.PlayedNode.{NodesOf, AreReady}

-- all of a node: a client's phase or refresh, and its peers; a relay's peers
abbrev pub played_due : ℕ → PlayedNode → List ℕ
played_due m (played.Client row is) = option_to_list (own_due is) ++ flat_map waits_until (listed_peers is m)
played_due m (played.Relay row is) = flat_map waits_until (relay_listed_peers is m)
played_due m _ = []

-- the moments at which the played nodes have something due
abbrev pub all_played_due : ℕ → List PlayedNode → List ℕ
all_played_due m list = flat_map (played_due m) list

-- whatever is summed over them is what their pasts give
abbrev pub EachSumIsOfThePast : Type 0
EachSumIsOfThePast = (lab : Lab) (list : List PlayedNode) (H : List Full) (weight : ℕ → ℕ) → NodesOf lab list H → AreReady (now H) list
    → sum_by weight (all_played_due (now H) list) ≡ sum_by weight (legal.all_due lab H 0 (nodes lab.topology))
