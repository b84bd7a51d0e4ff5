-- The node that a table describes beside the nodes of the tables before it, or why the text is refused: the keys in order.
use Rattle.std.specs.Prelude.{ℤ, Bool, true, false, codes, Option, Some, None, option_and_then, option_map, Result, Ok}
use Rattle.toml.specs.Data.{Data, as_str, as_integer, as_bool, as_array, Items, no_items, item, Members, get_member}
use Rattle.td_base.specs.Results.{◌>>=◌}
use Rattle.topology.specs.declared.server_node.ServerNode.{ServerNode}
use Rattle.topology.specs.declared.nat_node.NatNode.{NatNode}
use Rattle.topology.specs.declared.refresh_range.RefreshRange.{RefreshRange}
use Rattle.topology.specs.declared.client_node.ClientNode.{ClientNode}
use Rattle.topology.specs.declared.relay_node.RelayNode.{RelayNode}
use Rattle.topology.specs.declared.native_node.NativeNode.{NativeNode}
use Rattle.topology.specs.Rows.{TopologyState}
use Rattle.topology.specs.Named.{is_server, is_nat, is_relay, named}
use Rattle.scenario.specs.declared.scenario_fault.ScenarioFault.{ScenarioFault}
use Rattle.topology.specs.declared.refresh_range.TheConstants.{REFRESH_LOW_MS, REFRESH_HIGH_MS}
use Rattle.scenario.specs.declared.place.Place.{Place}
use Rattle.scenario.specs.Keys.{typed, ruled, word_at, name_at, whole_number_at}
use Rattle.scenario.specs.Fresh.{new_name, new_address, other_address, new_endpoint, new_six, new_inside, kind_of, idle_of, random_of, refresh_of}

-- a server
unfoldable pub server_of_table : TopologyState → Place → Members → Result ServerNode ScenarioFault
server_of_table t place table = do
  name ← name_at place (codes "name") (new_name t) table
  primary ← word_at place (codes "primary") (new_address t) table
  secondary ← word_at place (codes "secondary") (other_address t primary) table
  Ok (record { name = name; primary = primary; secondary = secondary })

-- a NAT
unfoldable pub nat_of_table : TopologyState → Place → Members → Result NatNode ScenarioFault
nat_of_table t place table = do
  name ← name_at place (codes "name") (new_name t) table
  kind ← word_at place (codes "kind") kind_of table
  external ← word_at place (codes "external") (new_address t) table
  idle ← whole_number_at place (codes "idle") idle_of table
  Ok (record { name = name; kind = kind; external = external; idle = idle })

-- the two whole numbers of a list that has no other value
abbrev pub two_integers : Items → Option (ℤ × ℤ)
two_integers (item first (item second no_items)) = option_and_then (λ low. option_map (λ high. (low, high)) (as_integer second)) (as_integer first)
two_integers _ = None

-- the times between refreshes that a value gives, in milliseconds
abbrev pub given_refresh : Place → Data → Result RefreshRange ScenarioFault
given_refresh place value = do
  times ← typed place (codes "refresh") (option_and_then two_integers (as_array value))
  ruled place (codes "refresh") (refresh_of times)

-- the times between refreshes, which may be missing
abbrev pub refresh_in : Place → Option Data → Result RefreshRange ScenarioFault
refresh_in place None = Ok (record { low_ms = REFRESH_LOW_MS; high_ms = REFRESH_HIGH_MS })
refresh_in place (Some value) = given_refresh place value

-- whether flags are random, which may be missing
abbrev pub random_in : Place → Option Data → Result Bool ScenarioFault
random_in place None = Ok false
random_in place (Some value) = typed place (codes "flags") (as_str value) >>= (λ text. ruled place (codes "flags") (random_of text))

-- whether there is a cone phase, which may be missing
abbrev pub cone_try_in : Place → Option Data → Result Bool ScenarioFault
cone_try_in place None = Ok true
cone_try_in place (Some value) = typed place (codes "cone_try") (as_bool value)

-- a client
unfoldable pub client_of_table : TopologyState → Place → Members → Result ClientNode ScenarioFault
client_of_table t place table = do
  name ← name_at place (codes "name") (new_name t) table
  nat ← name_at place (codes "nat") (named is_nat t) table
  inside ← word_at place (codes "inside") (new_inside t nat) table
  server ← name_at place (codes "server") (named is_server t) table
  refresh ← refresh_in place (get_member (codes "refresh") table)
  random ← random_in place (get_member (codes "flags") table)
  cone_try ← cone_try_in place (get_member (codes "cone_try") table)
  Ok (record { name = name; nat = nat; inside = inside; server = server; refresh = refresh; random = random; cone_try = cone_try })

-- a relay
unfoldable pub relay_of_table : TopologyState → Place → Members → Result RelayNode ScenarioFault
relay_of_table t place table = do
  name ← name_at place (codes "name") (new_name t) table
  at ← word_at place (codes "at") (new_endpoint t) table
  six ← word_at place (codes "six") (new_six t) table
  Ok (record { name = name; at = at; six = six })

-- a native host
unfoldable pub native_of_table : TopologyState → Place → Members → Result NativeNode ScenarioFault
native_of_table t place table = do
  name ← name_at place (codes "name") (new_name t) table
  six ← word_at place (codes "six") (new_six t) table
  relay ← name_at place (codes "relay") (named is_relay t) table
  Ok (record { name = name; six = six; relay = relay })
