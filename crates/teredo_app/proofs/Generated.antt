-- How `gen` ends, by how its scenario was played.
use Rattle.teredo_app.proofs.Words.{Err, Failed, GenEnds, GenWords, IsKeptSoFar, IsPlayed, Ok, PlayFault, Result, Scenario, SinkState, WireFull, WritesLines-nil, WritesNothing, WritesStarved, [], arith, asked_for, generated_is_honest, inl, inr, lit<, refl, status_of, subst, totals_account, ◌≡◌, ◌⊎◌}
use Rattle.player.specs.declared.player.PlayFault.TheVariants.{NoMemory}

-- memory ran out
pub starving_ends : (o o' : SinkState) (asked : GenWords) → o'.faults ≡ o.faults → WritesNothing o o' → GenEnds o o' asked 7
starving_ends o o' asked same nothing = record {
  statuses = (2, lit< tt, refl);
  honest = generated_is_honest asked.seed asked.count;
  promised = λ other. absurd (other refl);
  done = λ e. absurd (omega arith);
  unwritten = λ e. absurd (omega arith);
  starved = λ _. (same, nothing);
  full = λ e. absurd (omega arith);
}

-- no line was of a record, so none was written
none_written : (o o' : SinkState) (s : Scenario) → WritesNothing o o' ⊎ WritesStarved totals_account s [] o o' → WritesNothing o o'
none_written o o' s (inl nothing) = nothing
none_written o o' s (inr starved) = WritesLines-nil o o' starved.lines

generated_ends : (o o' : SinkState) (asked : GenWords) (played : Result (Unit {0}) PlayFault) → IsKeptSoFar (asked_for asked) []
    → IsPlayed totals_account (asked_for asked) [] o o' played → GenEnds o o' asked (status_of played)
generated_ends o o' asked (Ok _) kept (same, lines) = record {
  statuses = (0, lit< tt, refl);
  honest = generated_is_honest asked.seed asked.count;
  promised = λ other. kept;
  done = λ _. (same, lines);
  unwritten = λ e. absurd (omega arith);
  starved = λ e. absurd (omega arith);
  full = λ e. absurd (omega arith);
}
generated_ends o o' asked (Err Failed) kept (rose, begun) = record {
  statuses = (1, lit< tt, refl);
  honest = generated_is_honest asked.seed asked.count;
  promised = λ other. kept;
  done = λ e. absurd (omega arith);
  unwritten = λ _. (rose, begun);
  starved = λ e. absurd (omega arith);
  full = λ e. absurd (omega arith);
}
generated_ends o o' asked (Err NoMemory) kept (same, starved) = starving_ends o o' asked same (none_written o o' (asked_for asked) starved)
generated_ends o o' asked (Err WireFull) kept (same, lines) = record {
  statuses = (3, lit< tt, refl);
  honest = generated_is_honest asked.seed asked.count;
  promised = λ other. kept;
  done = λ e. absurd (omega arith);
  unwritten = λ e. absurd (omega arith);
  starved = λ e. absurd (omega arith);
  full = λ _. (same, lines);
}

-- the scenario is the one that is asked for
pub played_ends : (o o' : SinkState) (asked : GenWords) (s : Scenario) (played : Result (Unit {0}) PlayFault) → s ≡ asked_for asked → IsKeptSoFar s []
    → IsPlayed totals_account s [] o o' played → GenEnds o o' asked (status_of played)
played_ends o o' asked s played is kept plays =
    generated_ends o o' asked played (subst (λ (x : Scenario). IsKeptSoFar x []) is kept)
    (subst (λ (x : Scenario). IsPlayed totals_account x [] o o' played) is plays)
