-- How the writing of a run's last line ends.
use Rattle.std.specs.Prelude.{◌≡◌, ℕ, List, [], ◌∷◌}
use Rattle.td_outside.specs.Causes.{Rose}
use Rattle.td_outside.specs.Sink.{SinkState}
use Rattle.sink_lines.specs.Lines.{WritesLines, BeginsLines}
use Rattle.commands.specs.declared.statuses.TheConstants.{UNWRITABLE}

-- with its status, or because the sink failed
pub data LineEnds (o o' : SinkState) (line : List ℕ) (status result : ℕ) : Type 0 where
  line_written : result ≡ status → o'.faults ≡ o.faults → WritesLines o o' (line ∷ []) → LineEnds o o' line status result
  line_failed : result ≡ UNWRITABLE → Rose o.faults o'.faults → BeginsLines o o' (line ∷ []) → LineEnds o o' line status result
