-- The nodes that a client's row names: its server, and its NAT.
use Rattle.std.specs.Prelude.{◌≡◌, ℕ, true, Some}
use Rattle.topology.specs.declared.server_node.ServerNode.{ServerNode}
use Rattle.topology.specs.declared.nat_node.NatNode.{NatNode}
use Rattle.topology.specs.declared.client_node.ClientNode.{ClientNode}
use Rattle.topology.specs.declared.node.Node.TheVariants.{Server as server, Nat as nat, Client as client}
use Rattle.topology.specs.Rows.{TopologyState}
use Rattle.topology.specs.Rules.{IsTopology}
use Rattle.topology.specs.Topology.{node_at, client_at, nat_settings}
use Rattle.topology.specs.Chains.{nat_set_up}
use Rattle.topology.specs.NodeRules.{has_address}
use Rattle.legal.specs.Settings.{client_settings}

-- the server, which has both addresses that the client asks
pub record HasServer (t : TopologyState) (c : ClientNode) : Type 0 where
  pub row : ServerNode
  pub there : node_at t c.server ≡ Some (server row)
  pub primary : (client_settings t c).primary ≡ row.primary
  pub secondary : (client_settings t c).secondary ≡ row.secondary
  pub has_primary : has_address row.primary (server row) ≡ true
  pub has_secondary : has_address row.secondary (server row) ≡ true

-- the NAT, with its settings and its address
pub record HasNat (t : TopologyState) (c : ClientNode) : Type 0 where
  pub row : NatNode
  pub there : node_at t c.nat ≡ Some (nat row)
  pub set_up : nat_set_up t c.nat ≡ nat_settings row
  pub has_external : has_address row.external (nat row) ≡ true

-- a client of a topology is node n, and what its row names is there
pub record ClientsAreThere : Type 0 where
  -- | See `client_is_there`.
  pub node : (t : TopologyState) (n : ℕ) (c : ClientNode) → client_at t n ≡ Some c → node_at t n ≡ Some (client c)
  -- | See `client_is_there`.
  pub server_of : (t : TopologyState) (n : ℕ) (c : ClientNode) → IsTopology t → node_at t n ≡ Some (client c) → HasServer t c
  -- | See `client_is_there`.
  pub nat_of : (t : TopologyState) (n : ℕ) (c : ClientNode) → IsTopology t → node_at t n ≡ Some (client c) → HasNat t c
