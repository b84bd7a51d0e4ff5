-- What the route of a datagram is looked up by: the nodes, and the NATs at a moment.
use Rattle.std.specs.Prelude.{◌≡◌, ◌≤◌, ℕ, List, [], Some}
use Rattle.td_base.specs.declared.endpoint.Ep.{Ep}
use Rattle.history.specs.Full.{Item, Full}
use Rattle.legal.specs.Lab.{Draws, Lab, lab_on}
use Rattle.legal.specs.Emit.{reach, from_outside, route}
use Rattle.world.specs.declared.lookup.Lookup.{Lookup}
use Rattle.world.specs.declared.route.Route.{Route}
use Rattle.world.specs.Route.{by_route}
use Rattle.world.specs.Emission.{AreNatsWith}

-- the NATs are those among the nodes, and may be asked at the moment
pub record IsLookup (l : Lookup) : Type 0 where
  pub same : l.nats.now.topology ≡ l.topology.now
  pub clock : l.nats.now.moment ≤ l.now.0

-- the laboratory, whose nodes draw these words
abbrev pub lab_by : Draws → Lookup → Lab
lab_by d l = lab_on d l.topology.now l.nats.now.chain

-- it is the route of an entry, whatever the NATs stand for
abbrev pub IsRouteOf : Lookup → Item → Route → Type 0
IsRouteOf l x r = (d : Draws) (H : List Full) → AreNatsWith (lab_by d l) H [] l.nats.now → by_route l.topology.now r ≡ route (lab_by d l) H l.now.0 x

-- and that of what comes to node k from the outside
abbrev pub IsRouteAt : Lookup → ℕ → (src dst : Ep) → Route → Type 0
IsRouteAt l k src dst r = (d : Draws) (H : List Full) → AreNatsWith (lab_by d l) H [] l.nats.now
    → by_route l.topology.now r ≡ from_outside (lab_by d l) H l.now.0 src dst (reach l.topology.now (Some k))
