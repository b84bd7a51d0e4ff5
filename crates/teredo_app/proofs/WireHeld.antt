-- How `wire` ends, by how its last step ended: the capture that it wrote holds the wire of the history that it is of.
use Rattle.teredo_app.proofs.Words.{Begun, Err, Failed, FitsWire, Full, HoldsWire, IsPlayed, List, NotPlayed, Ok, Opened, PlayFault, ReadsKept, Result, Scenario, SinkState, SourceState, WireEnds, WireFull, [], arith, capture_account, capture_text, lab_of, length, line_failed, line_written, not_kept, not_read, not_taken, status_of, ℕ, ◌≡◌, ◌≤◌}
use Rattle.player.specs.declared.player.PlayFault.TheVariants.{NoMemory}
use Rattle.teredo_app.proofs.Ended.{not_played_ends, played_ends}

-- 65,536 entries fit into an audit
fits_audit : (s : Scenario) (H : List Full) → FitsWire H → HoldsWire (lab_of s []) H → length (capture_text (lab_of s []) H) ≤ 100663296
fits_audit s H fits holds = let size = holds.reads_back.size in omega (arith, fits, size)

-- nothing is done where there is no scenario
not_done : (i i' : SourceState) (o o' : SinkState) (file : List ℕ) (result : ℕ) → NotPlayed i i' o o' file result → result ≡ 0 → ⊥
not_done i i' o o' file result (not_read is rose same nothing) e = omega (arith, is, e)
not_done i i' o o' file result (not_kept is quiet nothing) e = omega (arith, is, e)
not_done i i' o o' file result (not_taken fault reads quiet (line_written is same lines)) e = omega (arith, is, e)
not_done i i' o o' file result (not_taken fault reads quiet (line_failed is rose lines)) e = omega (arith, is, e)

module _ (i i' : SourceState) (o o' : SinkState) (file : List ℕ) (from : Opened 4194305 i i' file) where
  pub no_wire_ends : (result : ℕ) → NotPlayed i i' o o' file result → WireEnds i i' o o' file result
  no_wire_ends result ends = record {
    played = not_played_ends capture_account i i' o o' file from result ends;
    holds = λ e. absurd (not_done i i' o o' file result ends e);
    short = λ e. absurd (not_done i i' o o' file result ends e);
  }

  pub wire_ends : (s : Scenario) (played : Result (Unit {0}) PlayFault) → ReadsKept i file s [] → i'.faults ≡ i.faults
      → ((H : List Full) → Begun (lab_of s []) s.events H → HoldsWire (lab_of s []) H) → IsPlayed capture_account s [] o o' played
      → WireEnds i i' o o' file (status_of played)
  unfolding played_ends
  wire_ends s (Ok x) reads quiet holds (same, lines) =
      let held = holds lines.history lines.whole.legal.begun in
      record {
        played = played_ends capture_account i i' o o' file from s (Ok x) reads quiet (same, lines);
        holds = λ e. held;
        short = λ e. fits_audit s lines.history lines.whole.fits held;
      }
  wire_ends s (Err Failed) reads quiet holds plays = record {
    played = played_ends capture_account i i' o o' file from s (Err Failed) reads quiet plays;
    holds = λ e. absurd (omega (arith, e));
    short = λ e. absurd (omega (arith, e));
  }
  wire_ends s (Err NoMemory) reads quiet holds plays = record {
    played = played_ends capture_account i i' o o' file from s (Err NoMemory) reads quiet plays;
    holds = λ e. absurd (omega (arith, e));
    short = λ e. absurd (omega (arith, e));
  }
  wire_ends s (Err WireFull) reads quiet holds plays = record {
    played = played_ends capture_account i i' o o' file from s (Err WireFull) reads quiet plays;
    holds = λ e. absurd (omega (arith, e));
    short = λ e. absurd (omega (arith, e));
  }
