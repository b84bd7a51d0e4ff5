-- First packets at each record of a history.
use Rattle.std.specs.Prelude.{◌≡◌, List, [], ◌∷◌, ◌++◌}
use Rattle.std.specs.List.{AllByRecursion}
use Rattle.topology.specs.Rows.{TopologyState}
use Rattle.topology.specs.Rules.{IsTopology}
use Rattle.events.specs.Events.{IsEvent}
use Rattle.events.specs.Scenario.{Scenario}
use Rattle.history.specs.Full.{Full}
use Rattle.legal.specs.Lab.{Lab, Draws, flat_lab, lab_of}
use Rattle.legal.specs.Legal.{Begun, Grown}
use Rattle.theory_first_packets.specs.FirstPacket.{FirstPacketArrives}

-- the first packet in the record after some records is carried in the schedule after it
abbrev pub EachFirstPacketArrives : Type 0
EachFirstPacketArrives = (d : Draws) (t : TopologyState) (H : List Full) (r : Full) (later : List Full) → IsTopology t
    → Grown (flat_lab d t) (later ++ r ∷ H) → FirstPacketArrives (flat_lab d t) H r later

-- so it is at each record, whatever comes after the schedule
abbrev pub FirstPacketsArrive : Lab → List Full → Type 0
FirstPacketsArrive lab H = (rest later : List Full) (r : Full) (before : List Full) → H ≡ rest ++ (later ++ r ∷ before)
    → FirstPacketArrives lab before r later

-- in each history of a topology that keeps its rules
abbrev pub HistoriesCarryFirstPackets : Type 0
HistoriesCarryFirstPackets = (d : Draws) (t : TopologyState) (H : List Full) → IsTopology t → Grown (flat_lab d t) H
    → FirstPacketsArrive (flat_lab d t) H

-- and in that of each scenario, as far as it was played
abbrev pub ScenariosCarryFirstPackets : Type 0
ScenariosCarryFirstPackets = (s : Scenario) (H : List Full) → IsTopology s.topology → AllByRecursion (IsEvent s.topology) s.events
    → Begun (lab_of s []) s.events H → FirstPacketsArrive (lab_of s []) H
