-- How many nodes a scenario has, and what its times are.
use Rattle.std.specs.Prelude.{◌≡◌}
use Rattle.topology.specs.declared.topology.TheConstants.{SERVERS_MAX, NATS_MAX, CLIENTS_MAX, RELAYS_MAX, NATIVES_MAX, NODES_MAX}
use Rattle.topology.specs.declared.node_name.TheConstants.{NAME_LEN}
use Rattle.topology.specs.declared.nat_node.TheConstants.{IDLE_MAX_MS}
use Rattle.topology.specs.declared.refresh_range.TheConstants.{REFRESH_MIN_MS, REFRESH_MAX_MS, REFRESH_LOW_MS, REFRESH_HIGH_MS}

-- the limits of nodes and times are those of `docs/SCENARIOS.md`
pub record TopologyNumbers : Type 0 where
  -- the most nodes of each kind
  pub servers_most : SERVERS_MAX ≡ 8
  pub nats_most : NATS_MAX ≡ 64
  pub clients_most : CLIENTS_MAX ≡ 64
  pub relays_most : RELAYS_MAX ≡ 4
  pub natives_most : NATIVES_MAX ≡ 64
  pub nodes_most : NODES_MAX ≡ 204
  -- the longest name, in bytes
  pub name : NAME_LEN ≡ 16
  -- how long a mapping lives at most, in milliseconds
  pub idle_most : IDLE_MAX_MS ≡ 10000000
  -- the shortest and the longest time between two refreshes, in milliseconds
  pub refresh_least : REFRESH_MIN_MS ≡ 1000
  pub refresh_most : REFRESH_MAX_MS ≡ 1000000
  -- the times where none are given, in milliseconds: RFC 4380, section 5.2.5
  pub refresh_low : REFRESH_LOW_MS ≡ 22500
  pub refresh_high : REFRESH_HIGH_MS ≡ 30000
