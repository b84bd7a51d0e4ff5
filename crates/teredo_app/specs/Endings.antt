-- How one part of a run ends, for the contracts of private functions.
use Rattle.std.specs.Prelude.{◌≡◌, ℕ, List, Result, Ok, Err}
use Rattle.td_outside.specs.Causes.{Rose}
use Rattle.scenario.specs.declared.scenario_fault.ScenarioFault.{ScenarioFault}
use Rattle.scenario.specs.Refusals.{refusal_line}
use Rattle.player.specs.declared.player.PlayFault.{PlayFault}
use Rattle.player.specs.declared.player.PlayFault.TheVariants.{Failed, NoMemory, WireFull}
use Rattle.td_outside.specs.Sink.{SinkState}
use Rattle.sink_lines.specs.Lines.{WritesNothing}
use Rattle.commands.specs.declared.statuses.TheConstants.{DONE, BAD_SCENARIO, UNREADABLE, UNWRITABLE, NO_MEMORY, WIRE_FULL}
use Rattle.td_outside.specs.Source.{SourceState}
use Rattle.commands.specs.Outside.{NoFault}
use Rattle.commands.specs.LastLine.{LineEnds}
use Rattle.teredo_app.specs.Reads.{Reads}

-- how it ends where a file gives no scenario
pub data NotPlayed (i i' : SourceState) (o o' : SinkState) (file : List ℕ) (result : ℕ) : Type 0 where
  not_read : result ≡ UNREADABLE → Rose i.faults i'.faults → o'.faults ≡ o.faults → WritesNothing o o' → NotPlayed i i' o o' file result
  not_kept : result ≡ NO_MEMORY → NoFault i i' o o' → WritesNothing o o' → NotPlayed i i' o o' file result
  not_taken : (fault : ScenarioFault) → Reads i file (Err fault) → i'.faults ≡ i.faults
      → LineEnds o o' (refusal_line fault) BAD_SCENARIO result → NotPlayed i i' o o' file result

-- the status of a scenario that was played so
abbrev pub status_of : Result (Unit {0}) PlayFault → ℕ
status_of (Ok _) = DONE
status_of (Err Failed) = UNWRITABLE
status_of (Err NoMemory) = NO_MEMORY
status_of (Err WireFull) = WIRE_FULL
