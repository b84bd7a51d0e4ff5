-- A topology that is filled kind by kind, for the contracts of private functions.
use Rattle.std.specs.Prelude.{◌≡◌, ℕ, [], length}
use Rattle.topology.specs.Rows.{TopologyState}
use Rattle.scenario.specs.declared.node_kind.NodeKind.{NodeKind}
use Rattle.scenario.specs.declared.node_kind.NodeKind.TheVariants as kind

-- how many nodes of a kind there are
abbrev pub row_count : NodeKind → TopologyState → ℕ
row_count kind.Server t = length t.servers
row_count kind.Nat t = length t.nats
row_count kind.Client t = length t.clients
row_count kind.Relay t = length t.relays
row_count kind.Native t = length t.natives

-- no nodes of the kinds behind this one
abbrev pub HasNoneBehind : NodeKind → TopologyState → Type 0
HasNoneBehind kind.Server t = (t.nats ≡ []) × (t.clients ≡ []) × (t.relays ≡ []) × (t.natives ≡ [])
HasNoneBehind kind.Nat t = (t.clients ≡ []) × (t.relays ≡ []) × (t.natives ≡ [])
HasNoneBehind kind.Client t = (t.relays ≡ []) × (t.natives ≡ [])
HasNoneBehind kind.Relay t = t.natives ≡ []
HasNoneBehind kind.Native t = Unit {0}

-- no nodes of this kind and of those behind it
abbrev pub HasNoneFrom : NodeKind → TopologyState → Type 0
HasNoneFrom kind t = (row_count kind t ≡ 0) × HasNoneBehind kind t
