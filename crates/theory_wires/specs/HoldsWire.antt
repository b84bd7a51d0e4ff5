-- What is so of the capture of a scenario's history: it holds the history's wire, and a server's part of it is licensed.
use Rattle.std.specs.Prelude.{List}
use Rattle.std.specs.List.{AllByRecursion}
use Rattle.topology.specs.Rules.{IsTopology}
use Rattle.topology.specs.Chains.{Behind}
use Rattle.events.specs.Events.{IsEvent}
use Rattle.events.specs.Scenario.{Scenario}
use Rattle.history.specs.Full.{Full}
use Rattle.legal.specs.Lab.{Lab, lab_of}
use Rattle.legal.specs.Legal.{Begun}
use Rattle.theory_wires.specs.ReadsBack.{IsReadBack}
use Rattle.theory_wires.specs.CleanWire.{IsCleanWire}

-- *holds the wire*: the capture of a history: it is read back, and an audit of it is clean for each server with its own
-- voice that was heard once.
pub record HoldsWire (lab : Lab) (H : List Full) : Type 0 where
  -- it is read as a record for each entry, in order
  pub reads_back : IsReadBack lab H
  -- an audit of it is clean, for a server in whose name no event sends, and to which no entry was delivered twice
  pub clean : IsCleanWire lab H

-- so of the history of each scenario, as far as it was played, whichever NATs are behind others
abbrev pub ScenariosHoldWires : Type 0
ScenariosHoldWires = (s : Scenario) (chain : List Behind) (H : List Full) → IsTopology s.topology → AllByRecursion (IsEvent s.topology) s.events
    → Begun (lab_of s chain) s.events H → HoldsWire (lab_of s chain) H
