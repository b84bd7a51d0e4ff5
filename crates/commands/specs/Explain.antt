-- How `explain IP1 IP2 FILE` ends, and what it has then done.
use Rattle.std.specs.Prelude.{◌≡◌, ◌==◌, ◌≤◌, ◌<◌, ℕ, if◌then◌else◌, List, [], ◌∷◌, ◌++◌, ◌⊎◌, length, Contains, IfSome}
use Rattle.td_outside.specs.Causes.{Rose}
use Rattle.td_outside.specs.Moves.{Gains}
use Rattle.td_outside.specs.Sink.{SinkState}
use Rattle.td_outside.specs.Source.{SourceState}
use Rattle.td_pcap.specs.declared.head.Head.{Head}
use Rattle.td_pcap.specs.Records.{Captured}
use Rattle.td_pcap.specs.Captures.{CaptureBytes}
use Rattle.td_audit.specs.Verdicts.{audited}
use Rattle.td_explain.specs.declared.said.Said.{Said}
use Rattle.td_explain.specs.declared.tally.Tally.{Tally}
use Rattle.td_explain.specs.Said.{all_said}
use Rattle.td_explain.specs.Tallies.{unlicensed}
use Rattle.td_explain.specs.Lines.{lines_from, explained_lines}
use Rattle.td_explain.specs.Explained.{BeginsWithRecords, StopsBehind}
use Rattle.sink_lines.specs.Lines.{WritesLines, BeginsLines, WritesNothing}
use Rattle.commands.specs.declared.audit_words.AuditWords.{AuditWords}
use Rattle.commands.specs.declared.audit_line.NoCapture.{NoCapture}
use Rattle.commands.specs.declared.audit_line.NoCapture.TheVariants.{TooLong, Fault}
use Rattle.commands.specs.declared.capture_file.TheConstants.{CAPTURE_MAX, CAPTURE_READ_MAX}
use Rattle.commands.specs.declared.statuses.TheConstants.{DONE, UNREADABLE, UNWRITABLE, NO_MEMORY, UNLICENSED, NO_CAPTURE}
use Rattle.commands.specs.Outside.{NoFault}
use Rattle.commands.specs.SourceText.{TakesAtMost}
use Rattle.commands.specs.AuditLine.{no_capture_line}

-- what is said of each of these records, for the server with these addresses
abbrev pub said_for : AuditWords → List Captured → List Said
said_for asked rs = all_said (audited asked.primary asked.secondary) rs

-- The bytes are a capture that is not too long, and these are its records.
pub record IsCaptureOf (rs : List Captured) (bytes : List ℕ) : Type 0 where
  pub short : length bytes ≤ CAPTURE_MAX
  pub head : Head
  pub capture : CaptureBytes head rs bytes

-- The bytes are too long; or they are no capture, by their first fault, and these are the records before it.
abbrev pub IsRefusedBehind : NoCapture → List Captured → List ℕ → Type 0
IsRefusedBehind TooLong rs bytes = (CAPTURE_MAX < length bytes) × (rs ≡ [])
IsRefusedBehind (Fault fault) rs bytes = (length bytes ≤ CAPTURE_MAX) × StopsBehind fault rs bytes

-- Some bytes are all that the name stands for, where the source tells them: a capture of these records.
pub record HasRecords (i : SourceState) (file : List ℕ) (rs : List Captured) : Type 0 where
  pub bytes : List ℕ
  pub named : IfSome (i.stands_for file) (λ told. bytes ≡ told)
  pub is : IsCaptureOf rs bytes

-- Likewise, and they are no capture that is explained, behind these records.
pub record IsRefused (i : SourceState) (file : List ℕ) (why : NoCapture) (rs : List Captured) : Type 0 where
  pub bytes : List ℕ
  pub named : IfSome (i.stands_for file) (λ told. bytes ≡ told)
  pub is : IsRefusedBehind why rs bytes

-- Likewise, and they begin with these records.
pub record HasFront (i : SourceState) (file : List ℕ) (rs : List Captured) : Type 0 where
  pub bytes : List ℕ
  pub named : IfSome (i.stands_for file) (λ told. bytes ≡ told)
  pub begins : BeginsWithRecords rs bytes

-- the lines of records, and those of a file that is refused behind them
abbrev pub lines_for : AuditWords → List Captured → List (List ℕ)
lines_for asked rs = lines_from 0 (said_for asked rs)

-- the lines of the records before the fault, and the line of the fault
abbrev pub refused_lines : AuditWords → List Captured → NoCapture → List (List ℕ)
refused_lines asked rs why = lines_for asked rs ++ no_capture_line why ∷ []

-- the lines of a whole capture: those of its records, and of its counts
abbrev pub capture_lines : AuditWords → List Captured → List (List ℕ)
capture_lines asked rs = explained_lines (said_for asked rs)

-- what a sink that failed was to hold
pub data ExplainBegins (i : SourceState) (o o' : SinkState) (asked : AuditWords) (file : List ℕ) : Type 0 where
  of_capture : (rs : List Captured) → HasRecords i file rs → BeginsLines o o' (capture_lines asked rs) → ExplainBegins i o o' asked file
  of_refusal : (why : NoCapture) (rs : List Captured) → IsRefused i file why rs → BeginsLines o o' (refused_lines asked rs why) → ExplainBegins i o o' asked file
  of_front : (rs : List Captured) → HasFront i file rs → BeginsLines o o' (lines_for asked rs) → ExplainBegins i o o' asked file

-- the status that goes with the counts
abbrev pub tally_status : Tally → ℕ
tally_status tally = if tally.unlicensed == 0 then DONE else UNLICENSED

-- How `explain IP1 IP2 FILE` ends: for each status its cause, and what was written. Source and sink stand there as they were
-- before, and as they are after.
pub record ExplainEnds (i i' : SourceState) (o o' : SinkState) (asked : AuditWords) (file : List ℕ) (status : ℕ) : Type 0 where
  pub statuses : Contains (DONE ∷ UNREADABLE ∷ UNWRITABLE ∷ NO_MEMORY ∷ UNLICENSED ∷ NO_CAPTURE ∷ []) status
  -- the file alone was opened, once, and no more of it was read than a capture may have, and one byte
  -- | See `AuditEnds`: `opened`.
  pub opened : Gains i.openings i'.openings file
  -- | See `AuditEnds`: `opened`.
  pub taken : TakesAtMost CAPTURE_READ_MAX i.taken i'.taken
  -- nothing failed, the file is a capture in which nothing is unlicensed, and its lines were written
  -- | See `explain_named`.
  pub clean : status ≡ DONE → NoFault i i' o o'
      × ((rs : List Captured) × HasRecords i file rs × (unlicensed (said_for asked rs) ≡ 0) × WritesLines o o' (capture_lines asked rs))
  -- nothing failed, the file is a capture in which something is, and its lines were written
  -- | See `AuditEnds`: `unlicensed`.
  pub unlicensed_found : status ≡ UNLICENSED → NoFault i i' o o'
      × ((rs : List Captured) × HasRecords i file rs × (0 < unlicensed (said_for asked rs)) × WritesLines o o' (capture_lines asked rs))
  -- nothing failed, the file is too long or no capture, and the lines of the records before, and then the one that says so, were written
  -- | See `AuditEnds`: `refused`.
  pub refused : status ≡ NO_CAPTURE → NoFault i i' o o'
      × ((why : NoCapture) × (rs : List Captured) × IsRefused i file why rs × WritesLines o o' (refused_lines asked rs why))
  -- the source failed, and nothing was written
  -- | See `AuditEnds`: `unread`.
  pub unread : status ≡ UNREADABLE → Rose i.faults i'.faults × (o'.faults ≡ o.faults) × WritesNothing o o'
  -- the sink failed, the source didn't, and a front was written of what was to be written
  -- | See `AuditEnds`: `unwritten`.
  pub unwritten : status ≡ UNWRITABLE → Rose o.faults o'.faults × (i'.faults ≡ i.faults) × ExplainBegins i o o' asked file
  -- memory ran out, nothing failed, and nothing was written; or it ran out behind some records, whose lines were written
  -- | See `AuditEnds`: `starved`.
  pub starved : status ≡ NO_MEMORY → NoFault i i' o o'
      × (WritesNothing o o' ⊎ ((rs : List Captured) × HasFront i file rs × WritesLines o o' (lines_for asked rs)))
