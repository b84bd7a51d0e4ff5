-- How an audit ends, by how its last step ended.
use Rattle.commands.proofs.Words.{AuditBegins, AuditEnds, AuditWords, Audits, Clean, Contains, Err, FindsNoCapture, IfSome, IsErrOf, IsFrontOf, IsTextOf, LineEnds, List, MatchBool, NoCapture, NoFault, None, Opened, Option, ReadFault, Result, Rose, SinkState, Some, SourceState, Unlicensed, Verdict, WritesLines, WritesNothing, [], ap, arith, inl, inr, length, length-append, line_failed, line_written, lit<, no_capture_line, refl, subst, sym, unread_status, verdict_line, verdict_status, ℕ, ◌<◌, ◌==◌, ◌∷◌, ◌≡◌, ◌≤◌}
use Rattle.commands.specs.declared.source_text.ReadFault.TheVariants.{Failed, NoMemory}

-- ---- what was read of a file, and all of it

-- what was read is all of it, where it is no longer than a capture may be
pub whole_capture : (told : Option (List ℕ)) (bytes : List ℕ) → IsTextOf told 100663297 bytes → length bytes ≤ 100663296 → IfSome told (λ all. bytes ≡ all)
whole_capture None bytes r short = tt
whole_capture (Some all) bytes r short = r.content.whole (omega (arith, short))

longer : (all bytes : List ℕ) → IsFrontOf all 100663297 bytes → 100663296 < length bytes → 100663296 < length all
longer all bytes f long = let (rest, is) = f.front in omega (arith, long, ap length is, length-append bytes rest)

-- what was read is longer, and so is all of it
pub too_long : (told : Option (List ℕ)) (bytes : List ℕ) → IsTextOf told 100663297 bytes → 100663296 < length bytes → (whole : List ℕ) × IfSome told (λ all. whole ≡ all) × (100663296 < length whole)
too_long None bytes r long = (bytes, tt, long)
too_long (Some all) bytes r long = (all, refl, longer all bytes r.content long)

-- ---- the ends

module _ (i i' : SourceState) (o o' : SinkState) (asked : AuditWords) (file : List ℕ) (from : Opened 100663297 i i' file) where
  -- what is so with a status
  abbrev Says : ℕ → Type 0
  Says status =
      MatchBool (status == 0) (NoFault i i' o o' × ((packets to from_ skipped : ℕ) × Audits i asked file (Clean packets to from_ skipped)
      × WritesLines o o' (verdict_line (Clean packets to from_ skipped) ∷ [])))
      (MatchBool (status == 10) (NoFault i i' o o'
      × ((place : ℕ) × Audits i asked file (Unlicensed place) × WritesLines o o' (verdict_line (Unlicensed place) ∷ [])))
      (MatchBool (status == 11) (NoFault i i' o o'
      × ((why : NoCapture) × FindsNoCapture i file why × WritesLines o o' (no_capture_line why ∷ [])))
      (MatchBool (status == 4) (Rose i.faults i'.faults × (o'.faults ≡ o.faults) × WritesNothing o o')
      (MatchBool (status == 5) (Rose o.faults o'.faults × (i'.faults ≡ i.faults) × AuditBegins i o o' asked file)
      (NoFault i i' o o' × WritesNothing o o')))))

  by_status : (status : ℕ) → Contains (0 ∷ 4 ∷ 5 ∷ 7 ∷ 10 ∷ 11 ∷ []) status → Says status → AuditEnds i i' o o' asked file status
  by_status status is says = record {
    statuses = is;
    opened = from.opened;
    taken = from.taken;
    clean = λ e. subst Says e says;
    unlicensed = λ e. subst Says e says;
    refused = λ e. subst Says e says;
    unread = λ e. subst Says e says;
    unwritten = λ e. subst Says e says;
    starved = λ e. subst Says e says;
  }

  -- memory ran out
  pub starved_ends : NoFault i i' o o' → WritesNothing o o' → AuditEnds i i' o o' asked file 7
  starved_ends quiet nothing = by_status 7 (3, lit< tt, refl) (quiet, nothing)

  -- the file was not read
  pub unread_ends : {T : Type 0} (read : Result T ReadFault) (fault : ReadFault) → read ≡ Err fault
      → (IsErrOf read NoMemory → i'.faults ≡ i.faults) → (IsErrOf read Failed → Rose i.faults i'.faults)
      → o'.faults ≡ o.faults → WritesNothing o o' → AuditEnds i i' o o' asked file (unread_status fault)
  unread_ends read Failed is quiet rose same nothing = by_status 4 (1, lit< tt, refl) (rose is, same, nothing)
  unread_ends read NoMemory is quiet rose same nothing = starved_ends (record { source = quiet is; sink = same }) nothing

  -- the sink failed
  unwritten_ends : i'.faults ≡ i.faults → Rose o.faults o'.faults → AuditBegins i o o' asked file → AuditEnds i i' o o' asked file 5
  unwritten_ends quiet rose begun = by_status 5 (2, lit< tt, refl) (rose, quiet, begun)

  verdict_written : (verdict : Verdict) → Audits i asked file verdict → NoFault i i' o o' → WritesLines o o' (verdict_line verdict ∷ [])
      → AuditEnds i i' o o' asked file (verdict_status verdict)
  verdict_written (Clean packets to from_ skipped) is quiet lines = by_status 0 (0, lit< tt, refl) (quiet, (packets, to, from_, skipped, is, lines))
  verdict_written (Unlicensed place) is quiet lines = by_status 10 (4, lit< tt, refl) (quiet, (place, is, lines))

  -- there is a verdict
  pub verdict_ends : (verdict : Verdict) (result : ℕ) → Audits i asked file verdict → i'.faults ≡ i.faults
      → LineEnds o o' (verdict_line verdict) (verdict_status verdict) result → AuditEnds i i' o o' asked file result
  verdict_ends verdict result is quiet (line_written ended same lines) =
      subst (AuditEnds i i' o o' asked file) (sym ended) (verdict_written verdict is (record { source = quiet; sink = same }) lines)
  verdict_ends verdict result is quiet (line_failed ended rose lines) =
      subst (AuditEnds i i' o o' asked file) (sym ended) (unwritten_ends quiet rose (inl (verdict, is, lines)))

  -- there is no capture
  pub no_capture_ends : (why : NoCapture) (result : ℕ) → FindsNoCapture i file why → i'.faults ≡ i.faults
      → LineEnds o o' (no_capture_line why) 11 result → AuditEnds i i' o o' asked file result
  no_capture_ends why result is quiet (line_written ended same lines) =
      subst (AuditEnds i i' o o' asked file) (sym ended) (by_status 11 (5, lit< tt, refl) (record { source = quiet; sink = same }, (why, is, lines)))
  no_capture_ends why result is quiet (line_failed ended rose lines) =
      subst (AuditEnds i i' o o' asked file) (sym ended) (unwritten_ends quiet rose (inr (why, is, lines)))
