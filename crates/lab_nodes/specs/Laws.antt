-- What holds of each row of a topology.
use Rattle.std.specs.Prelude.{◌≡◌, ℕ, Some}
use Rattle.topology.specs.declared.client_node.ClientNode.{ClientNode}
use Rattle.topology.specs.declared.node.Node.TheVariants.{Client as client}
use Rattle.topology.specs.Rows.{TopologyState}
use Rattle.topology.specs.Rules.{IsTopology, IsClient}
use Rattle.topology.specs.Topology.{node_at}

-- a client, by its number among all nodes, keeps to the rules for clients
abbrev pub EachClientKeepsRules : Type 0
EachClientKeepsRules = (t : TopologyState) (n : ℕ) (c : ClientNode) → IsTopology t → node_at t n ≡ Some (client c) → IsClient t c
