-- The five kinds of nodes, each with a list of tables of its own: the list's key, how many tables it has at most, and the keys of a table.
use Rattle.std.specs.Prelude.{ℕ, List, [], ◌∷◌, codes}
use Rattle.topology.specs.declared.topology.TheConstants.{SERVERS_MAX, NATS_MAX, CLIENTS_MAX, RELAYS_MAX, NATIVES_MAX}
use Rattle.scenario.specs.declared.node_kind.NodeKind.{NodeKind}
use Rattle.scenario.specs.declared.node_kind.NodeKind.TheVariants as kind

-- the key of the list
abbrev pub list_key : NodeKind → List ℕ
list_key kind.Server = codes "server"
list_key kind.Nat = codes "nat"
list_key kind.Client = codes "client"
list_key kind.Relay = codes "relay"
list_key kind.Native = codes "native"

-- how many tables the list has at most
abbrev pub most_rows : NodeKind → ℕ
most_rows kind.Server = SERVERS_MAX
most_rows kind.Nat = NATS_MAX
most_rows kind.Client = CLIENTS_MAX
most_rows kind.Relay = RELAYS_MAX
most_rows kind.Native = NATIVES_MAX

-- the keys of a table of the list
abbrev pub row_keys : NodeKind → List (List ℕ)
row_keys kind.Server = codes "name" ∷ codes "primary" ∷ codes "secondary" ∷ []
row_keys kind.Nat = codes "name" ∷ codes "kind" ∷ codes "external" ∷ codes "idle" ∷ []
row_keys kind.Client = codes "name" ∷ codes "nat" ∷ codes "inside" ∷ codes "server" ∷ codes "refresh" ∷ codes "flags" ∷ codes "cone_try" ∷ []
row_keys kind.Relay = codes "name" ∷ codes "at" ∷ codes "six" ∷ []
row_keys kind.Native = codes "name" ∷ codes "six" ∷ codes "relay" ∷ []

-- the keys of a scenario
abbrev pub scenario_keys : List (List ℕ)
scenario_keys = codes "seed" ∷ codes "server" ∷ codes "nat" ∷ codes "client" ∷ codes "relay" ∷ codes "native" ∷ codes "events" ∷ []
