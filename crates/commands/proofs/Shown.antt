-- How `show` ends, by what was on its page.
use Rattle.commands.proofs.Words.{LineEnds, List, ShowEnds, ShowsFault, ShowsNoText, SinkState, arith, inr, line_failed, line_written, lit<, refl, subst, sym, ℕ, ◌⊎◌}

-- the page has a fault's line
pub fault_ends : (o o' : SinkState) (word page : List ℕ) (result : ℕ) → ShowsNoText word page ⊎ ShowsFault word page → LineEnds o o' page 1 result → ShowEnds o o' word result
fault_ends o o' word page result shown (line_written is same lines) = subst (λ (n : ℕ). ShowEnds o o' word n) (sym is) (record {
  statuses = (1, lit< tt, refl);
  done = λ e. absurd (omega arith);
  refused = λ _. (same, (page, shown, lines));
  unwritten = λ e. absurd (omega arith);
})
fault_ends o o' word page result shown (line_failed is rose lines) = subst (λ (n : ℕ). ShowEnds o o' word n) (sym is) (record {
  statuses = (2, lit< tt, refl);
  done = λ e. absurd (omega arith);
  refused = λ e. absurd (omega arith);
  unwritten = λ _. (rose, (page, inr shown, lines));
})
