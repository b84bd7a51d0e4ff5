-- How `explain` ends, by how its last step ended.
use Rattle.commands.proofs.Words.{AuditWords, BeginsLines-then, Bool, Capture, Captured, Contains, Err, ExplainBegins, ExplainEnds, HasFront, HasRecords, IfSome, IsErrOf, IsRefused, LineEnds, List, MatchBool, NoCapture, NoFault, Opened, ReadFault, Result, Rose, SinkState, SourceState, Tally, TellFault, TellFaultEnds, TellingEnds, TellsAll, WritesLines, WritesLines-then, WritesNothing, [], ap, arith, capture_lines, cases_Bool, cond, eqb-false, eqb-true, inl, inr, length, line_failed, line_written, lines_for, lit<, no_capture_line, of_capture, of_front, of_refusal, refl, refused_lines, said_for, subst, sym, tally_line, tally_of, tally_status, unlicensed, unread_status, ℕ, ◌<◌, ◌==◌, ◌∙◌, ◌∷◌, ◌≡◌, ◌≤◌, ◌⊎◌}
use Rattle.commands.specs.declared.source_text.ReadFault.TheVariants as reads
use Rattle.td_audit.specs.declared.fault.AuditFault.TheVariants.{NoMemory}
use Rattle.commands.specs.declared.explain_file.TellFault.TheVariants.{Failed, Fault}
use Rattle.commands.specs.declared.audit_line.NoCapture.TheVariants as refusals

module _ (i i' : SourceState) (o o' : SinkState) (asked : AuditWords) (file : List ℕ) (from : Opened 100663297 i i' file) where
  -- what is so with a status
  abbrev Says : ℕ → Type 0
  Says status =
      MatchBool (status == 0) (NoFault i i' o o'
      × ((rs : List Captured) × HasRecords i file rs × (unlicensed (said_for asked rs) ≡ 0) × WritesLines o o' (capture_lines asked rs)))
      (MatchBool (status == 10) (NoFault i i' o o'
      × ((rs : List Captured) × HasRecords i file rs × (0 < unlicensed (said_for asked rs)) × WritesLines o o' (capture_lines asked rs)))
      (MatchBool (status == 11) (NoFault i i' o o'
      × ((why : NoCapture) × (rs : List Captured) × IsRefused i file why rs × WritesLines o o' (refused_lines asked rs why)))
      (MatchBool (status == 4) (Rose i.faults i'.faults × (o'.faults ≡ o.faults) × WritesNothing o o')
      (MatchBool (status == 5) (Rose o.faults o'.faults × (i'.faults ≡ i.faults) × ExplainBegins i o o' asked file)
      (NoFault i i' o o' × (WritesNothing o o' ⊎ ((rs : List Captured) × HasFront i file rs × WritesLines o o' (lines_for asked rs))))))))

  by_status : (status : ℕ) → Contains (0 ∷ 4 ∷ 5 ∷ 7 ∷ 10 ∷ 11 ∷ []) status → Says status → ExplainEnds i i' o o' asked file status
  by_status status is says = record {
    statuses = is;
    opened = from.opened;
    taken = from.taken;
    clean = λ e. subst Says e says;
    unlicensed_found = λ e. subst Says e says;
    refused = λ e. subst Says e says;
    unread = λ e. subst Says e says;
    unwritten = λ e. subst Says e says;
    starved = λ e. subst Says e says;
  }

  -- the file was not read
  pub unread_ends : {T : Type 0} (read : Result T ReadFault) (fault : ReadFault) → read ≡ Err fault
      → (IsErrOf read reads.NoMemory → i'.faults ≡ i.faults) → (IsErrOf read reads.Failed → Rose i.faults i'.faults)
      → o'.faults ≡ o.faults → WritesNothing o o' → ExplainEnds i i' o o' asked file (unread_status fault)
  unread_ends read reads.Failed is quiet rose same nothing = by_status 4 (1, lit< tt, refl) (rose is, same, nothing)
  unread_ends read reads.NoMemory is quiet rose same nothing = by_status 7 (3, lit< tt, refl) (record { source = quiet is; sink = same }, inl nothing)

  -- memory ran out behind some records
  pub starved_behind : (rs : List Captured) → HasFront i file rs → NoFault i i' o o' → WritesLines o o' (lines_for asked rs)
      → ExplainEnds i i' o o' asked file 7
  starved_behind rs front quiet lines = by_status 7 (3, lit< tt, refl) (quiet, inr (rs, front, lines))

  -- the sink failed
  pub unwritten_ends : i'.faults ≡ i.faults → Rose o.faults o'.faults → ExplainBegins i o o' asked file → ExplainEnds i i' o o' asked file 5
  unwritten_ends quiet rose begun = by_status 5 (2, lit< tt, refl) (rose, quiet, begun)

  refused_written : (why : NoCapture) (rs : List Captured) → IsRefused i file why rs → NoFault i i' o o'
      → WritesLines o o' (refused_lines asked rs why) → ExplainEnds i i' o o' asked file 11
  refused_written why rs is quiet lines = by_status 11 (5, lit< tt, refl) (quiet, (why, rs, is, lines))

  all_written : (rs : List Captured) → HasRecords i file rs → NoFault i i' o o' → WritesLines o o' (capture_lines asked rs)
      → ExplainEnds i i' o o' asked file (tally_status (tally_of (said_for asked rs)))
  all_written rs is quiet lines =
      let n = unlicensed (said_for asked rs) in
      elim (cases_Bool (n == 0)) [
        | inl none ↦ subst (λ (k : ℕ). ExplainEnds i i' o o' asked file k) (sym (ap (λ (b : Bool). cond b 0 10) none))
            (by_status 0 (0, lit< tt, refl) (quiet, (rs, is, eqb-true n 0 none, lines)))
        | inr some ↦ subst (λ (k : ℕ). ExplainEnds i i' o o' asked file k) (sym (ap (λ (b : Bool). cond b 0 10) some))
            (by_status 10 (4, lit< tt, refl) (quiet, (rs, is, (let differ = eqb-false n 0 some in omega (arith, differ)), lines)))
      ]

-- ---- the last line comes behind those of the records

-- the source and the sink of a run, before it and after it, and the sink before its last line
pub record Ending : Type 0 where
  pub i : SourceState
  pub i' : SourceState
  pub o : SinkState
  pub mid : SinkState
  pub o' : SinkState

module _ (the : Ending) (asked : AuditWords) (file : List ℕ) (from : Opened 100663297 the.i the.i' file) where
  open the use {i, i', o, mid, o'}

  -- the file is a capture
  pub capture_ends : (rs : List Captured) (result : ℕ) → HasRecords i file rs → i'.faults ≡ i.faults → mid.faults ≡ o.faults → WritesLines o mid (lines_for asked rs)
      → LineEnds mid o' (tally_line (tally_of (said_for asked rs))) (tally_status (tally_of (said_for asked rs))) result → ExplainEnds i i' o o' asked file result
  capture_ends rs result is quiet same told (line_written ends still lines) =
      subst (λ (k : ℕ). ExplainEnds i i' o o' asked file k) (sym ends)
      (all_written i i' o o' asked file from rs is (record { source = quiet; sink = still ∙ same })
      (WritesLines-then o mid o' (lines_for asked rs) (tally_line (tally_of (said_for asked rs)) ∷ []) told lines))
  capture_ends rs result is quiet same told (line_failed ends rose lines) =
      subst (λ (k : ℕ). ExplainEnds i i' o o' asked file k) (sym ends)
      (unwritten_ends i i' o o' asked file from quiet (subst (λ (n : ℕ). Rose n o'.faults) same rose)
      (of_capture rs is (BeginsLines-then o mid o' (lines_for asked rs) (tally_line (tally_of (said_for asked rs)) ∷ []) told lines)))

  -- the file is refused behind some records
  pub refusal_ends : (why : NoCapture) (rs : List Captured) (result : ℕ) → IsRefused i file why rs → i'.faults ≡ i.faults → mid.faults ≡ o.faults → WritesLines o mid (lines_for asked rs)
      → LineEnds mid o' (no_capture_line why) 11 result → ExplainEnds i i' o o' asked file result
  refusal_ends why rs result is quiet same told (line_written ends still lines) =
      subst (λ (k : ℕ). ExplainEnds i i' o o' asked file k) (sym ends)
      (refused_written i i' o o' asked file from why rs is (record { source = quiet; sink = still ∙ same })
      (WritesLines-then o mid o' (lines_for asked rs) (no_capture_line why ∷ []) told lines))
  refusal_ends why rs result is quiet same told (line_failed ends rose lines) =
      subst (λ (k : ℕ). ExplainEnds i i' o o' asked file k) (sym ends)
      (unwritten_ends i i' o o' asked file from quiet (subst (λ (n : ℕ). Rose n o'.faults) same rose)
      (of_refusal why rs is (BeginsLines-then o mid o' (lines_for asked rs) (no_capture_line why ∷ []) told lines)))

-- ---- by how the telling of the records ended

pub record IsRead (i : SourceState) (file bytes : List ℕ) : Type 0 where
  pub named : IfSome (i.stands_for file) (λ told. bytes ≡ told)
  pub short : length bytes ≤ 100663296

module _ (the : Ending) (asked : AuditWords) (file bytes : List ℕ) (from : Opened 100663297 the.i the.i' file) (found : IsRead the.i file bytes) (quiet : the.i'.faults ≡ the.i.faults) where
  open the use {i, i', o, mid, o'}

  pub told_ends : (tally : Tally) (result : ℕ) → TellsAll o mid asked bytes tally → LineEnds mid o' (tally_line tally) (tally_status tally) result → ExplainEnds i i' o o' asked file result
  told_ends tally result all line =
      let rs = all.records in
      let is : HasRecords i file rs = record { bytes = bytes; named = found.named; is = record { short = found.short; head = all.head; capture = all.capture } } in
      capture_ends the asked file from rs result is quiet all.same all.lines (subst (λ (t : Tally). LineEnds mid o' (tally_line t) (tally_status t) result) all.tally_is line)

  pub untold_ends : (fault : TellFault) (result : ℕ) → TellingEnds o mid asked bytes (Err fault) → TellFaultEnds mid o' fault result → ExplainEnds i i' o o' asked file result
  untold_ends Failed result within ends =
      let front : HasFront i file within.records = record { bytes = bytes; named = found.named; begins = within.begins } in
      subst (λ (k : ℕ). ExplainEnds i i' o o' asked file k) (sym ends.0)
      (subst (λ (s : SinkState). ExplainEnds i i' o s asked file 5) (sym ends.1) (unwritten_ends i i' o mid asked file from quiet within.rose (of_front within.records front within.lines)))
  untold_ends (Fault (Capture fault)) result within ends =
      let is : IsRefused i file (refusals.Fault fault) within.records = record { bytes = bytes; named = found.named; is = (found.short, within.stop) } in
      refusal_ends the asked file from (refusals.Fault fault) within.records result is quiet within.same within.lines ends
  untold_ends (Fault NoMemory) result within ends =
      let front : HasFront i file within.records = record { bytes = bytes; named = found.named; begins = within.stop } in
      subst (λ (k : ℕ). ExplainEnds i i' o o' asked file k) (sym ends.0)
      (subst (λ (s : SinkState). ExplainEnds i i' o s asked file 7) (sym ends.1)
      (starved_behind i i' o mid asked file from within.records front (record { source = quiet; sink = within.same }) within.lines))
