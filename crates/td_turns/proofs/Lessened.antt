-- One more tick of what is due.
use Rattle.td_turns.proofs.Words.{Carries, GoesBy, List, SendFaults, Step, Ticked, TicksOnce, Told, [], ap, arith, attempts_of, carries_on, count_by, count_end, count_ones, failed_by, last_step, made_by, min, not, ones_failed, refl, ℕ, ◌+◌, ◌∙◌, ◌∷◌, ◌≡◌}

-- The ticks so far.
pub record Ran {S : Type 0} (ticks : S → Step → S → Type 0) (owing : S → ℕ) (old new : S) (link link' : Told) (step step' : Step) (failed : ℕ) : Type 0 where
  pub ticked : List Ticked
  pub states : GoesBy ticks owing old ticked new
  pub told : Carries link link' [] (made_by ticked)
  pub filled : step' ≡ last_step step ticked
  pub failures : failed ≡ min (failed_by ticked) count_end

-- One more tick.
pub ran_ticked : {S : Type 0} {ticks : S → Step → S → Type 0} {owing : S → ℕ} {old mid new : S} {link link1 link2 : Told} {step step1 step2 : Step} {failed bits failed' : ℕ}
    → Ran ticks owing old mid link link1 step step1 failed → TicksOnce ticks owing mid new link1 link2 step2 bits
    → failed' ≡ min (failed + count_ones bits) count_end → Ran ticks owing old new link link2 step step2 failed'
ran_ticked {mid = mid} {link = link} {link1 = link1} {link2 = link2} {step2 = step2} {bits = bits} ran once sum =
    let answers = once.sends.answers in
    let lost : count_ones bits ≡ count_by not answers = ap count_ones once.sends.bits ∙ ones_failed answers in
    record {
      ticked = record { step = step2; answers = answers } ∷ ran.ticked;
      states = (mid, ran.states, once.ticked, once.due, once.sends.each);
      told = carries_on link link1 link2 [] [] (made_by ran.ticked) (attempts_of step2.sends answers) ran.told once.sends.told;
      filled = refl;
      failures = omega (arith, sum, lost, ran.failures);
    }

-- A count of sends that failed, where it stops at its end.
pub faults_up_to : (old new n m : ℕ) → SendFaults old new n → m ≡ min n count_end → SendFaults old new m
faults_up_to old new n m so is = record {
  later = so.later;
  rose = λ some. so.rose (omega (arith, some, is));
  kept = λ none. so.kept (omega (arith, none, is));
}
