-- No storm, from each record of a history on: what can be said of a history that was played.
use Rattle.std.specs.Prelude.{◌≡◌, List, ◌++◌}
use Rattle.std.specs.List.{AllByRecursion}
use Rattle.topology.specs.Rules.{IsTopology}
use Rattle.topology.specs.Chains.{Behind}
use Rattle.topology.specs.Rows.{TopologyState}
use Rattle.events.specs.Events.{IsEvent}
use Rattle.events.specs.Scenario.{Scenario}
use Rattle.history.specs.Full.{Full}
use Rattle.legal.specs.Lab.{Lab, lab_of}
use Rattle.legal.specs.Legal.{Begun, Grown}
use Rattle.theory_storms.specs.Deliveries.{DeliveriesEnd, SettlingEnds}

-- *no storm*: new deliveries alone, and the records of a `settle`, are at most nine for each undelivered entry and each
-- packet that waits; by the weights alone, twelve.
-- of the records right after H
pub record HasNoStorm (t : TopologyState) (H later : List Full) : Type 0 where
  -- where each of them delivers an entry for the first time they are few
  pub deliveries : DeliveriesEnd t H later
  -- so are those of a `settle` after which it goes on
  pub settling : SettlingEnds t H later

-- wherever the history is cut, and however many records are taken from there on
abbrev pub HasNoStormThroughout : TopologyState → List Full → Type 0
HasNoStormThroughout t H = (rest later before : List Full) → H ≡ rest ++ (later ++ before) → HasNoStorm t before later

-- a history of a topology that keeps its rules has no storm
abbrev pub HistoriesHaveNoStorm : Type 0
HistoriesHaveNoStorm = (lab : Lab) (H : List Full) → IsTopology lab.topology → Grown lab H → HasNoStormThroughout lab.topology H

-- nor has that of a scenario, as far as it was played, whichever NATs are behind others
abbrev pub ScenariosHaveNoStorm : Type 0
ScenariosHaveNoStorm = (s : Scenario) (chain : List Behind) (H : List Full) → IsTopology s.topology → AllByRecursion (IsEvent s.topology) s.events
    → Begun (lab_of s chain) s.events H → HasNoStormThroughout s.topology H
