-- Where an entry goes, as a world finds it.
use Rattle.std.specs.Prelude.{◌<◌, ℕ, length, Some}
use Rattle.topology.specs.Rows.{TopologyState}
use Rattle.topology.specs.Topology.{nodes}
use Rattle.legal.specs.Emit as legal
use Rattle.legal.specs.Emit.{closed, astray, reach}
use Rattle.world.specs.declared.route.Route.{Route}
use Rattle.world.specs.declared.route.Route.TheVariants.{Reaches, Closed, Astray}

-- a route of the code as one of the definitions
abbrev pub by_route : TopologyState → Route → legal.Route
by_route t (Reaches n) = reach t (Some n)
by_route t (Closed n) = closed n
by_route t Astray = astray

-- the route that ends at a node
abbrev pub reached : ℕ → Route
reached n = Reaches n

-- a node that is reached is one of the topology
abbrev pub IsThere : TopologyState → Route → Type 0
IsThere t (Reaches n) = n < length (nodes t)
IsThere t (Closed n) = Unit {0}
IsThere t Astray = Unit {0}
