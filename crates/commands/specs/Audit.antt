-- How `audit IP1 IP2 FILE` ends, and what it has then done.
use Rattle.std.specs.Prelude.{◌≡◌, ◌≤◌, ◌<◌, ℕ, List, [], ◌∷◌, ◌⊎◌, length, Contains, IfSome}
use Rattle.td_outside.specs.Causes.{Rose}
use Rattle.td_outside.specs.Moves.{Gains}
use Rattle.td_outside.specs.Sink.{SinkState}
use Rattle.td_outside.specs.Source.{SourceState}
use Rattle.td_pcap.specs.Captures.{IsCaptureFault}
use Rattle.td_audit.specs.declared.verdict.Verdict.{Verdict}
use Rattle.td_audit.specs.declared.verdict.Verdict.TheVariants.{Clean, Unlicensed}
use Rattle.td_audit.specs.Verdicts.{audited, IsJudged}
use Rattle.sink_lines.specs.Lines.{WritesLines, BeginsLines, WritesNothing}
use Rattle.commands.specs.declared.audit_words.AuditWords.{AuditWords}
use Rattle.commands.specs.declared.audit_line.NoCapture.{NoCapture}
use Rattle.commands.specs.declared.audit_line.NoCapture.TheVariants.{TooLong, Fault}
use Rattle.commands.specs.declared.capture_file.TheConstants.{CAPTURE_MAX, CAPTURE_READ_MAX}
use Rattle.commands.specs.declared.statuses.TheConstants.{DONE, UNREADABLE, UNWRITABLE, NO_MEMORY, UNLICENSED, NO_CAPTURE}
use Rattle.commands.specs.Outside.{NoFault}
use Rattle.commands.specs.SourceText.{TakesAtMost}
use Rattle.commands.specs.AuditLine.{verdict_line, no_capture_line}

-- The bytes are a capture that is not too long, and this is the verdict on the server with these addresses.
pub record IsAudited (asked : AuditWords) (verdict : Verdict) (bytes : List ℕ) : Type 0 where
  pub short : length bytes ≤ CAPTURE_MAX
  pub judged : IsJudged (audited asked.primary asked.secondary) verdict bytes

-- The bytes are too long; or they are no capture, by their first fault.
abbrev pub IsNoCapture : NoCapture → List ℕ → Type 0
IsNoCapture TooLong bytes = CAPTURE_MAX < length bytes
IsNoCapture (Fault fault) bytes = (length bytes ≤ CAPTURE_MAX) × IsCaptureFault fault bytes

-- Some bytes are all that the name stands for, where the source tells them, and this is the verdict on them.
pub record Audits (i : SourceState) (asked : AuditWords) (file : List ℕ) (verdict : Verdict) : Type 0 where
  pub bytes : List ℕ
  pub named : IfSome (i.stands_for file) (λ told. bytes ≡ told)
  pub is : IsAudited asked verdict bytes

-- Likewise, and they are no capture that is audited.
pub record FindsNoCapture (i : SourceState) (file : List ℕ) (why : NoCapture) : Type 0 where
  pub bytes : List ℕ
  pub named : IfSome (i.stands_for file) (λ told. bytes ≡ told)
  pub is : IsNoCapture why bytes

-- what a sink that failed was to hold
abbrev pub AuditBegins : SourceState → SinkState → SinkState → AuditWords → List ℕ → Type 0
AuditBegins i o o' asked file =
    ((verdict : Verdict) × Audits i asked file verdict × BeginsLines o o' (verdict_line verdict ∷ []))
    ⊎ ((why : NoCapture) × FindsNoCapture i file why × BeginsLines o o' (no_capture_line why ∷ []))

-- How `audit IP1 IP2 FILE` ends: for each status its cause, and what was written. Source and sink stand there as they were
-- before, and as they are after.
pub record AuditEnds (i i' : SourceState) (o o' : SinkState) (asked : AuditWords) (file : List ℕ) (status : ℕ) : Type 0 where
  pub statuses : Contains (DONE ∷ UNREADABLE ∷ UNWRITABLE ∷ NO_MEMORY ∷ UNLICENSED ∷ NO_CAPTURE ∷ []) status
  -- the file alone was opened, once, and no more of it was read than a capture may have, and one byte
  -- | `audit` and `explain` open only FILE, once, and take 100,663,297 bytes at most.
  pub opened : Gains i.openings i'.openings file
  -- | See `AuditEnds`: `opened`.
  pub taken : TakesAtMost CAPTURE_READ_MAX i.taken i'.taken
  -- nothing failed, each datagram from the server is licensed, and the line of the counts was written
  -- | On `audit` the counts of source and sink stayed with every status but 4 and 5; with 4 the sink's stayed, and with
  --   5 the source's. This holds also of a source and a sink that tell nothing, as the real ones do. For 7 `starved`
  --   says it.
  -- | See `audit_named`.
  pub clean : status ≡ DONE → NoFault i i' o o' × ((packets to from skipped : ℕ) × Audits i asked file (Clean packets to from skipped)
      × WritesLines o o' (verdict_line (Clean packets to from skipped) ∷ []))
  -- nothing failed, one isn't, and the line of the first such record was written
  -- | 10: only on `audit` and `explain`, where FILE is a capture of at most 96 MiB in which a datagram from the server
  --   isn't licensed; the line of the least such record was written, on `explain` the lines of all records and of the
  --   counts.
  -- | See `AuditEnds`: `clean`.
  pub unlicensed : status ≡ UNLICENSED → NoFault i i' o o'
      × ((place : ℕ) × Audits i asked file (Unlicensed place) × WritesLines o o' (verdict_line (Unlicensed place) ∷ []))
  -- nothing failed, the file is too long or no capture, and the line that says so was written
  -- | 11: only on `audit` and `explain`, where FILE has more than 96 MiB or is no capture; the line of which, with the
  --   first fault, was written, on `explain` behind the lines of the records before the fault. It comes before any
  --   verdict.
  -- | See `AuditEnds`: `clean`.
  pub refused : status ≡ NO_CAPTURE → NoFault i i' o o' × ((why : NoCapture) × FindsNoCapture i file why × WritesLines o o' (no_capture_line why ∷ []))
  -- the source failed, and nothing was written
  -- | 4: only on `audit` and `explain` of these, where the source's count rose; nothing was written.
  -- | See `AuditEnds`: `clean`.
  pub unread : status ≡ UNREADABLE → Rose i.faults i'.faults × (o'.faults ≡ o.faults) × WritesNothing o o'
  -- the sink failed, the source didn't, and a front was written of what was to be written
  -- | 5: only where the sink's count rose; only a first part of what was to be written was written.
  -- | See `AuditEnds`: `clean`.
  pub unwritten : status ≡ UNWRITABLE → Rose o.faults o'.faults × (i'.faults ≡ i.faults) × AuditBegins i o o' asked file
  -- memory ran out, nothing failed, and nothing was written
  -- | 7: only on `audit` and `explain` of these, where no count rose; nothing was written, or on `explain` the lines of
  --   some first records of FILE.
  --   Leaves open: when there is too little memory.
  pub starved : status ≡ NO_MEMORY → NoFault i i' o o' × WritesNothing o o'
