use Rattle.td_outside.proofs.Words.{[], ap, arith, count_end, drop, length, min, moment_of, raised, sym, told_given, ℕ, ◌++◌, ◌+◌, ◌<◌, ◌∙◌, ◌∷◌, ◌≡◌}
use Rattle.td_outside.proofs.GivenMoments.{next_at, after_at, after_last, given_of, given_next, given_again, told_next}
use Rattle.td_outside.proofs.test_clock.TestClockClock.now.Goals as goal
use Rattle.td_outside.proofs.test_clock.TestClockClock.now.Goals.{then-self-lt4, else-self-lt4}

pub returns-clause-state : goal.returns-clause-state
returns-clause-state c =
    let ms = c.self.inside.moments in
    let at = c.self.inside.at in
    let again = c.self.inside.again in
    let within : at < length ms = c.self.invariant.0 in
    let here = next_at ms at within in
    elim c.if-self-lt4.branch [
      | then-self-lt4 w ↦
          let zero : again ≡ 0 = c.self.invariant.2 (omega (arith, w.if-self-lt4.true)) in
          let more = told_next (min (at + again) count_end) (given_of ms at again) (given_of ms (at + 1) again) (moment_of (drop at ms)).0 (omega arith) (λ few. given_next ms at again within zero) in
          let rest = after_at ms at (omega (arith, w.if-self-lt4.true)) in
          let count : min (at + 1 + again) count_end ≡ raised (min (at + again) count_end) = omega arith in
          rw (← c.self.view_is, w.self-inside-is) (λ k. record { last = (sym here k).0; coming = rest k; made = count k; gave = (ap (λ (n : ℕ). told_given n (given_of ms (at + 1) again)) count ∙ more) k })
      | else-self-lt4 w ↦
          let last : at + 1 ≡ length ms = omega (arith, w.if-self-lt4.false) in
          let next = w.saturating_add-self-inside.result in
          let few : min (at + again) count_end < count_end → given_of ms at next ≡ given_of ms at again ++ (moment_of (drop at ms)).0 ∷ [] =
          λ less. let more : next ≡ again + 1 = omega (arith, less, w.saturating_add-self-inside.ensures) in ap (given_of ms at) more ∙ given_again ms at again in
          let more = told_next (min (at + again) count_end) (given_of ms at again) (given_of ms at next) (moment_of (drop at ms)).0 (omega arith) few in
          let rest = after_last ms at last in
          let count : min (at + next) count_end ≡ raised (min (at + again) count_end) = omega (arith, w.saturating_add-self-inside.ensures) in
          rw (← c.self.view_is, w.self-inside-is) (λ k. record { last = (sym here k).0; coming = rest k; made = count k; gave = (ap (λ (n : ℕ). told_given n (given_of ms at next)) count ∙ more) k })
    ]
