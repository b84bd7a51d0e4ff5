-- How many attempts failed, and the faults that come of it.
use Rattle.td_live.proofs.Words.{Bool, FailsBy, List, LiveTotals, Rose, Send, SendFaults, [], ap, arith, cond, count_by, count_by-le-length, count_ones, eq-zero-or-pos, failed_bits, false, inl, inr, length, not, ones_failed, ones_le_self, refl, sum_by-append, true, with_attempts, zero_from_ones, ℕ, ◌++◌, ◌+◌, ◌-◌, ◌∙◌, ◌∷◌, ◌≡◌, ◌≤◌}

count_both : (test : Bool → Bool) (xs ys : List Bool) → count_by test (xs ++ ys) ≡ count_by test xs + count_by test ys
count_both test xs ys = sum_by-append (λ x. cond (test x) 1 0) xs ys

both_kinds : (answers : List Bool) → count_by (λ sent. sent) answers + count_by not answers ≡ length answers
both_kinds [] = refl
both_kinds (true ∷ answers) =
    let sent : count_by (λ sent. sent) (true ∷ answers) ≡ 1 + count_by (λ sent. sent) answers = count_both (λ sent. sent) (true ∷ []) answers in
    let lost : count_by not (true ∷ answers) ≡ 0 + count_by not answers = count_both not (true ∷ []) answers in
    omega (arith, sent, lost, both_kinds answers)
both_kinds (false ∷ answers) =
    let sent : count_by (λ sent. sent) (false ∷ answers) ≡ 0 + count_by (λ sent. sent) answers = count_both (λ sent. sent) (false ∷ []) answers in
    let lost : count_by not (false ∷ answers) ≡ 1 + count_by not answers = count_both not (false ∷ []) answers in
    omega (arith, sent, lost, both_kinds answers)

pub lost_of : (failed : ℕ) (answers : List Bool) → failed ≡ failed_bits answers → count_ones failed ≡ count_by not answers
lost_of failed answers bits = ap count_ones bits ∙ ones_failed answers

pub few_lost : (sends : List Send) (failed : ℕ) (answers : List Bool) → length answers ≡ length sends → failed ≡ failed_bits answers
    → count_ones failed ≤ length sends
few_lost sends failed answers each bits = omega (arith, lost_of failed answers bits, count_by-le-length not answers, each)

abbrev pub Counts : LiveTotals → LiveTotals → List Send → ℕ → Type 0
Counts old new sends failed = new ≡ record { sent = old.sent + (length sends - count_ones failed); failed = old.failed + count_ones failed }

pub counted : (old new : LiveTotals) (sends : List Send) (failed : ℕ) (answers : List Bool) → length answers ≡ length sends → failed ≡ failed_bits answers
    → Counts old new sends failed → new ≡ with_attempts old answers
counted old new sends failed answers each bits counts =
    let lost = lost_of failed answers bits in
    let sent : length sends - count_ones failed ≡ count_by (λ sent. sent) answers = omega (arith, lost, both_kinds answers, each) in
    counts ∙ (λ k. record { sent = old.sent + sent k; failed = old.failed + lost k })

pub uncounted : (totals : LiveTotals) → totals ≡ with_attempts totals []
uncounted totals =
    let sent : totals.sent ≡ totals.sent + 0 = omega arith in
    let failed : totals.failed ≡ totals.failed + 0 = omega arith in
    λ k. record { sent = sent k; failed = failed k }

pub counted_twice : (totals : LiveTotals) (xs ys : List Bool) → with_attempts (with_attempts totals xs) ys ≡ with_attempts totals (xs ++ ys)
counted_twice totals xs ys =
    let sent : totals.sent + count_by (λ sent. sent) xs + count_by (λ sent. sent) ys ≡ totals.sent + count_by (λ sent. sent) (xs ++ ys) = omega
    (arith, count_both (λ sent. sent) xs ys) in
    let failed : totals.failed + count_by not xs + count_by not ys ≡ totals.failed + count_by not (xs ++ ys) = omega (arith, count_both not xs ys) in
    λ k. record { sent = sent k; failed = failed k }

-- ---- faults of sending

pub fails_by : (before now failed : ℕ) (old new : LiveTotals) (sends : List Send) → SendFaults before now failed → Counts old new sends failed
    → FailsBy before now old.failed new.failed
fails_by before now failed old new sends faults counts =
    let more : new.failed ≡ old.failed + count_ones failed = ap (λ (t : LiveTotals). t.failed) counts in
    record {
      later = faults.later;
      counted = omega (arith, more);
      rose = λ some. faults.rose (omega (arith, more, some, ones_le_self failed));
      kept = λ same. faults.kept (zero_from_ones failed (omega (arith, more, same)));
    }

rose_on : (a b c : ℕ) → a ≤ b → Rose b c → Rose a c
rose_on a b c later rose = omega (arith, later, rose)

pub fails_twice : (a b c f g h : ℕ) → FailsBy a b f g → FailsBy b c g h → FailsBy a c f h
fails_twice a b c f g h first second = record {
  later = omega (arith, first.later, second.later);
  counted = omega (arith, first.counted, second.counted);
  rose = λ some. elim (eq-zero-or-pos (g - f)) [
    | inl none ↦ rose_on a b c first.later (second.rose (omega (arith, none, some, first.counted)))
    | inr more ↦ omega (arith, first.rose (omega (arith, more)), second.later)
  ];
  kept = λ e. second.kept (omega (arith, e, first.counted, second.counted)) ∙ first.kept (omega (arith, e, first.counted, second.counted));
}
