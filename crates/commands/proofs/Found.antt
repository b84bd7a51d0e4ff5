-- How `qualify` ends, by how its last line was written.
use Rattle.commands.proofs.Words.{Asked, BeginsLines, ClockState, Err, FindsLive, FindsNothing, Gains, HasCause, LineEnds, LinkState, Live, LiveTotals, MatchResult, NoSession, OffLine, Ok, OnOk, Qualified, QualifyEnds, Result, Rose, SendFaults, SessionOf, SinkState, Symmetric, Undecided, WritesLines, WritesNothing, [], arith, free_port_of, inl, inr, line_failed, line_written, lit<, live_status, qualify_line, refl, subst, sym, ℕ, ◌∷◌, ◌≡◌, ◌⊎◌}
use Rattle.td_outside.specs.declared.fails.Failed.{Failed}

-- the sink, the link and the clock before a session and after it, and what was asked
pub record Around : Type 0 where
  pub o : SinkState
  pub o' : SinkState
  pub l : LinkState
  pub l' : LinkState
  pub c : ClockState
  pub c' : ClockState
  pub asked : Asked

-- what a session ends with: its result, and its counts
pub record HasEnded (l l' : LinkState) (c c' : ClockState) (asked : Asked) (totals : LiveTotals) (result : Result Live Failed) : Type 0 where
  pub cause : HasCause l.recv_faults l'.recv_faults result
  pub sends : SendFaults l.send_faults l'.send_faults totals.failed
  pub session : MatchResult result (λ answer. SessionOf asked l l' c c' totals (Ok answer))
      (λ fault. NoSession l l' c c' totals ⊎ SessionOf asked l l' c c' totals (Err fault))

module _ (the : Around) (opened : Gains the.l.openings the.l'.openings (free_port_of the.asked.inside)) where
  open the use {o, o', l, l', c, c', asked}

  pub unlinked_ends : Rose l.recv_faults l'.recv_faults → o'.faults ≡ o.faults → WritesNothing o o' → FindsNothing l l' c c' asked → QualifyEnds o o' l l' c c' asked 6
  unlinked_ends rose same nothing finds = record {
    statuses = (2, lit< tt, refl);
    opened = opened;
    done = λ e. absurd (omega arith);
    undecided = λ e. absurd (omega arith);
    unwritten = λ e. absurd (omega arith);
    unlinked = λ _. (rose, same, nothing, finds);
  }

  found_ends : (live : Live) (found : FindsLive l l' c c' asked live) → (live ≡ Undecided → ⊥) → o'.faults ≡ o.faults → WritesLines o o' (qualify_line live found.totals ∷ []) → QualifyEnds o o' l l' c c' asked 0
  found_ends live found decided same lines = record {
    statuses = (0, lit< tt, refl);
    opened = opened;
    done = λ _. (same, (live, decided, found, lines));
    undecided = λ e. absurd (omega arith);
    unwritten = λ e. absurd (omega arith);
    unlinked = λ e. absurd (omega arith);
  }

  undecided_ends : (found : FindsLive l l' c c' asked Undecided) → o'.faults ≡ o.faults → WritesLines o o' (qualify_line Undecided found.totals ∷ []) → QualifyEnds o o' l l' c c' asked 9
  undecided_ends found same lines = record {
    statuses = (3, lit< tt, refl);
    opened = opened;
    done = λ e. absurd (omega arith);
    undecided = λ _. (same, (found, lines));
    unwritten = λ e. absurd (omega arith);
    unlinked = λ e. absurd (omega arith);
  }

  unwritten_ends : (live : Live) (found : FindsLive l l' c c' asked live) → Rose o.faults o'.faults → BeginsLines o o' (qualify_line live found.totals ∷ []) → QualifyEnds o o' l l' c c' asked 5
  unwritten_ends live found rose lines = record {
    statuses = (1, lit< tt, refl);
    opened = opened;
    done = λ e. absurd (omega arith);
    undecided = λ e. absurd (omega arith);
    unwritten = λ _. (rose, (live, found, lines));
    unlinked = λ e. absurd (omega arith);
  }

  written_ends : (live : Live) (found : FindsLive l l' c c' asked live) → o'.faults ≡ o.faults → WritesLines o o' (qualify_line live found.totals ∷ []) → QualifyEnds o o' l l' c c' asked (live_status live)
  written_ends (Qualified address) found same lines = found_ends (Qualified address) found (λ e. cc) same lines
  written_ends Symmetric found same lines = found_ends Symmetric found (λ e. cc) same lines
  written_ends OffLine found same lines = found_ends OffLine found (λ e. cc) same lines
  written_ends Undecided found same lines = undecided_ends found same lines

  pub line_ends : (live : Live) (found : FindsLive l l' c c' asked live) (result : ℕ) → LineEnds o o' (qualify_line live found.totals) (live_status live) result → QualifyEnds o o' l l' c c' asked result
  line_ends live found result (line_written ends same lines) = subst (λ (n : ℕ). QualifyEnds o o' l l' c c' asked n) (sym ends) (written_ends live found same lines)
  line_ends live found result (line_failed ends rose lines) = subst (λ (n : ℕ). QualifyEnds o o' l l' c c' asked n) (sym ends) (unwritten_ends live found rose lines)

  -- the session's answer
  pub found_line : (totals : LiveTotals) (result : Result Live Failed) → HasEnded l l' c c' asked totals result → (live : Live) → result ≡ Ok live
      → (status : ℕ) → LineEnds o o' (qualify_line live totals) (live_status live) status → QualifyEnds o o' l l' c c' asked status
  found_line totals result is live ok status ends =
      let receives : l'.recv_faults ≡ l.recv_faults = subst (λ (r : Result Live Failed). OnOk r (l'.recv_faults ≡ l.recv_faults)) ok is.cause.kept in
      let so : SessionOf asked l l' c c' totals (Ok live) = subst
      (λ (r : Result Live Failed). MatchResult r (λ answer. SessionOf asked l l' c c' totals (Ok answer))
      (λ fault. NoSession l l' c c' totals ⊎ SessionOf asked l l' c c' totals (Err fault))) ok is.session in
      line_ends live (record { totals = totals; session = so; receives = receives; sends = is.sends }) status ends

  -- the session's fault
  pub fault_ends : (totals : LiveTotals) (result : Result Live Failed) → HasEnded l l' c c' asked totals result → ((live : Live) → result ≡ Ok live → ⊥)
      → o'.faults ≡ o.faults → WritesNothing o o' → QualifyEnds o o' l l' c c' asked 6
  fault_ends totals (Ok live) is none same nothing = absurd (none live refl)
  fault_ends totals (Err fault) is none same nothing =
      unlinked_ends is.cause.failed same nothing (totals, is.sends, elim is.session [ inl shut ↦ inl shut | inr broke ↦ inr (fault, broke) ])
