-- The nodes that the lists of tables of a text describe, or why the text is refused. Each list is read as the others are.
use Rattle.std.specs.Prelude.{ℕ, ◌+◌, nat_le, if◌then◌else◌, Option, Some, None, ok_or, Result, Ok, Err}
use Rattle.toml.specs.Data.{Data, as_array, as_table, Items, no_items, item, Members, get_member}
use Rattle.td_base.specs.Results.{◌>>=◌}
use Rattle.topology.specs.Rows.{TopologyState, no_nodes, with_server, with_nat, with_client, with_relay, with_native}
use Rattle.scenario.specs.declared.scenario_fault.ScenarioFault.{ScenarioFault}
use Rattle.scenario.specs.declared.scenario_fault.ScenarioFault.TheVariants as fault
use Rattle.scenario.specs.declared.node_kind.NodeKind.{NodeKind}
use Rattle.scenario.specs.declared.node_kind.NodeKind.TheVariants as kind
use Rattle.scenario.specs.declared.place.Place.{Place}
use Rattle.scenario.specs.declared.place.Place.TheVariants as place
use Rattle.scenario.specs.NodeKinds.{list_key, most_rows, row_keys}
use Rattle.scenario.specs.Paths.{row_path, key_path}
use Rattle.scenario.specs.Keys.{only_keys, typed}
use Rattle.scenario.specs.NodeRows.{server_of_table, nat_of_table, client_of_table, relay_of_table, native_of_table}

-- the nodes, and the one of a table that has no unknown key
unfoldable pub with_row : NodeKind → TopologyState → Place → Members → Result TopologyState ScenarioFault
with_row kind.Server t place table = server_of_table t place table >>= (λ row. Ok (with_server t row))
with_row kind.Nat t place table = nat_of_table t place table >>= (λ row. Ok (with_nat t row))
with_row kind.Client t place table = client_of_table t place table >>= (λ row. Ok (with_client t row))
with_row kind.Relay t place table = relay_of_table t place table >>= (λ row. Ok (with_relay t row))
with_row kind.Native t place table = native_of_table t place table >>= (λ row. Ok (with_native t row))

-- the nodes, and the one of a value of a list
unfoldable pub with_value : NodeKind → ℕ → TopologyState → Data → Result TopologyState ScenarioFault
with_value kind index t value = do
  table ← ok_or (as_table value) (fault.Kind (row_path kind index))
  only ← only_keys (row_keys kind) (place.Row kind index) table
  with_row kind t (place.Row kind index) table

-- the nodes, and those of the values of a list in order, the first of which has this number
abbrev pub with_values : NodeKind → ℕ → TopologyState → Items → Result TopologyState ScenarioFault
with_values kind index t no_items = Ok t
with_values kind index t (item value more) = do
  t ← with_value kind index t value
  with_values kind (index + 1) t more

-- how many values a list has
abbrev pub item_count : Items → ℕ
item_count no_items = 0
item_count (item value more) = 1 + item_count more

-- the nodes, and those of a list that isn't too long
abbrev pub with_few : NodeKind → TopologyState → Items → Result TopologyState ScenarioFault
with_few kind t values = if nat_le (item_count values) (most_rows kind) then with_values kind 0 t values
    else Err (fault.Range (key_path place.Text (list_key kind)))

-- the nodes, and those of a list, which may be missing
abbrev pub with_list : NodeKind → TopologyState → Option Data → Result TopologyState ScenarioFault
with_list kind t None = Ok t
with_list kind t (Some value) = typed place.Text (list_key kind) (as_array value) >>= with_few kind t

-- the nodes, and those of the list of a kind in a text
abbrev pub with_nodes : NodeKind → TopologyState → Members → Result TopologyState ScenarioFault
with_nodes kind t table = with_list kind t (get_member (list_key kind) table)

-- the nodes of a text: servers, NATs, clients, relays, native hosts
unfoldable pub nodes_of : Members → Result TopologyState ScenarioFault
nodes_of table = do
  t ← with_nodes kind.Server no_nodes table
  t ← with_nodes kind.Nat t table
  t ← with_nodes kind.Client t table
  t ← with_nodes kind.Relay t table
  with_nodes kind.Native t table
