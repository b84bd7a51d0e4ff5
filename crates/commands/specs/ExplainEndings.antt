-- How one part of `explain` ends, for the contracts of private functions.
use Rattle.std.specs.Prelude.{◌≡◌, ℕ, List, length, Result, Ok, Err}
use Rattle.td_outside.specs.Causes.{Rose}
use Rattle.td_outside.specs.Sink.{SinkState}
use Rattle.td_pcap.specs.declared.head.Head.{Head}
use Rattle.td_pcap.specs.Records.{Captured}
use Rattle.td_pcap.specs.Captures.{CaptureBytes}
use Rattle.td_audit.specs.declared.fault.AuditFault.{AuditFault}
use Rattle.td_explain.specs.declared.tally.Tally.{Tally}
use Rattle.td_explain.specs.Tallies.{tally_of}
use Rattle.td_audit.specs.declared.fault.AuditFault.TheVariants as faults
use Rattle.td_audit.specs.Verdicts.{audited}
use Rattle.td_explain.specs.declared.explainer.Explainer.{Explainer}
use Rattle.td_explain.specs.Explained.{BeginsWithRecords, IsStop, Explains}
use Rattle.sink_lines.specs.Lines.{WritesLines, BeginsLines}
use Rattle.commands.specs.declared.audit_words.AuditWords.{AuditWords}
use Rattle.commands.specs.declared.explain_file.TellFault.{TellFault}
use Rattle.commands.specs.declared.explain_file.TellFault.TheVariants.{Failed, Fault}
use Rattle.commands.specs.declared.audit_line.NoCapture.TheVariants as refusals
use Rattle.commands.specs.declared.statuses.TheConstants.{UNWRITABLE, NO_MEMORY, NO_CAPTURE}
use Rattle.commands.specs.AuditLine.{no_capture_line}
use Rattle.commands.specs.LastLine.{LineEnds}
use Rattle.commands.specs.Explain.{said_for, lines_for}

-- the lines of the records of x were written, and these are their counts
pub record TellsAll (o o' : SinkState) (asked : AuditWords) (x : List ℕ) (tally : Tally) : Type 0 where
  pub records : List Captured
  pub head : Head
  pub capture : CaptureBytes head records x
  pub tally_is : tally ≡ tally_of (said_for asked records)
  pub same : o'.faults ≡ o.faults
  pub lines : WritesLines o o' (lines_for asked records)

-- the sink failed at the lines of some records that x begins with
pub record FailsWithin (o o' : SinkState) (asked : AuditWords) (x : List ℕ) : Type 0 where
  pub records : List Captured
  pub begins : BeginsWithRecords records x
  pub rose : Rose o.faults o'.faults
  pub lines : BeginsLines o o' (lines_for asked records)

-- no more can be told behind some records, whose lines were written
pub record StopsWithin (o o' : SinkState) (asked : AuditWords) (x : List ℕ) (fault : AuditFault) : Type 0 where
  pub records : List Captured
  pub stop : IsStop fault records x
  pub same : o'.faults ≡ o.faults
  pub lines : WritesLines o o' (lines_for asked records)

-- the lines of the records so far were written
pub record TellsSoFar (o o' : SinkState) (asked : AuditWords) (x : List ℕ) (e : Explainer) (place : ℕ) : Type 0 where
  pub records : List Captured
  pub explains : Explains (audited asked.primary asked.secondary) e x records
  pub place_is : place ≡ length records
  pub same : o'.faults ≡ o.faults
  pub lines : WritesLines o o' (lines_for asked records)

-- how it ends behind some records, by the fault
abbrev pub FaultEnds : SinkState → SinkState → AuditFault → ℕ → Type 0
FaultEnds o o' (faults.Capture fault) result = LineEnds o o' (no_capture_line (refusals.Fault fault)) NO_CAPTURE result
FaultEnds o o' faults.NoMemory result = (result ≡ NO_MEMORY) × (o' ≡ o)

-- how telling a fault ends: the sink failed, or the line of the fault was written
abbrev pub TellFaultEnds : SinkState → SinkState → TellFault → ℕ → Type 0
TellFaultEnds o o' Failed result = (result ≡ UNWRITABLE) × (o' ≡ o)
TellFaultEnds o o' (Fault fault) result = FaultEnds o o' fault result

-- how the telling of all records ends
abbrev pub TellingEnds : SinkState → SinkState → AuditWords → List ℕ → Result Tally TellFault → Type 0
TellingEnds o o' asked x (Ok tally) = TellsAll o o' asked x tally
TellingEnds o o' asked x (Err Failed) = FailsWithin o o' asked x
TellingEnds o o' asked x (Err (Fault fault)) = StopsWithin o o' asked x fault
