-- How far the record had come at which a world stopped.
use Rattle.std.specs.Prelude.{ℕ, List, [], ◌∷◌}
use Rattle.events.specs.declared.event.Event.{Event}
use Rattle.history.specs.Full.{Full}
use Rattle.history.specs.declared.turn.Stop.{Stop}
use Rattle.td_chain.specs.Chains.{ChainsState}
use Rattle.legal.specs.Lab.{Draws, Lab}
use Rattle.legal.specs.Next.{next_of}
use Rattle.lab_nodes.specs.declared.played_node.PlayedNode.{PlayedNode}
use Rattle.lab_nodes.specs.PlayedNode.{NodesOf}
use Rattle.world.specs.Emission.{AreNatsWith, AreNatsAmid}
use Rattle.world.specs.World.{WorldState, StandsFor, IsCause, lab_in}

-- Nothing was done: nodes and NATs stand for the history still. Or its node had acted, and what that sends had no place: the
-- nodes stand for the history with the record, and the NATs know a part of what it lets out.
pub data Halted (lab : Lab) (nodes : List PlayedNode) (nats : ChainsState) (H : List Full) (r : Full) : Type 0 where
  unacted : NodesOf lab nodes H → AreNatsWith lab H [] nats → Halted lab nodes nats H r
  unplaced : NodesOf lab nodes (r ∷ H) → AreNatsAmid lab H r.passed nats → Halted lab nodes nats H r

-- a record wasn't played: for this cause, and so far
pub record Stops (d : Draws) (old new : WorldState) (H : List Full) (r : Full) (stop : Stop) : Type 0 where
  pub cause : IsCause old r stop
  pub left : Halted (lab_in d old) new.nodes new.nats H r

-- where a world stops that hadn't stopped before: at the record that follows
abbrev pub StopsAt : WorldState → WorldState → ℕ → Event → Type 0
StopsAt old new index event = (d : Draws) (H : List Full) → StandsFor d old H
    → Halted (lab_in d old) new.nodes new.nats H (next_of (lab_in d old) H index event)
