-- A scenario.
use Rattle.std.specs.Prelude.{ℕ, List}
use Rattle.topology.specs.Rows.{TopologyState}
use Rattle.events.specs.declared.event.Event.{Event}

-- *scenario*: seed, topology and events: what a scenario text says.
-- the seed of the random words, the nodes, the events
pub record Scenario : Type 0 where
  pub seed : ℕ
  pub topology : TopologyState
  pub events : List Event
