-- What contracts see of a topology.
use Rattle.std.specs.Prelude.{List, [], ◌∷◌, ◌++◌}
use Rattle.topology.specs.declared.server_node.ServerNode.{ServerNode}
use Rattle.topology.specs.declared.nat_node.NatNode.{NatNode}
use Rattle.topology.specs.declared.client_node.ClientNode.{ClientNode}
use Rattle.topology.specs.declared.relay_node.RelayNode.{RelayNode}
use Rattle.topology.specs.declared.native_node.NativeNode.{NativeNode}

-- the rows of the nodes, by their kinds
pub record TopologyState : Type 0 where
  pub servers : List ServerNode
  pub nats : List NatNode
  pub clients : List ClientNode
  pub relays : List RelayNode
  pub natives : List NativeNode

-- a topology without nodes
abbrev pub no_nodes : TopologyState
no_nodes = record { servers = []; nats = []; clients = []; relays = []; natives = [] }

-- the nodes and one more
abbrev pub with_server : TopologyState → ServerNode → TopologyState
with_server t row = record t { servers = t.servers ++ row ∷ [] }

-- the topology with one more NAT
abbrev pub with_nat : TopologyState → NatNode → TopologyState
with_nat t row = record t { nats = t.nats ++ row ∷ [] }

-- the topology with one more client
abbrev pub with_client : TopologyState → ClientNode → TopologyState
with_client t row = record t { clients = t.clients ++ row ∷ [] }

-- the topology with one more relay
abbrev pub with_relay : TopologyState → RelayNode → TopologyState
with_relay t row = record t { relays = t.relays ++ row ∷ [] }

-- the topology with one more native host
abbrev pub with_native : TopologyState → NativeNode → TopologyState
with_native t row = record t { natives = t.natives ++ row ∷ [] }
