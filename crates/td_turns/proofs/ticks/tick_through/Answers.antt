use Rattle.td_turns.proofs.Words.{Stays-Moves, arith, count_end, count_ones, min, ◌+◌, ◌∙◌, ◌≡◌}
use Rattle.td_turns.proofs.Turns.{faults_on}
use Rattle.td_turns.proofs.Lessened.{ran_ticked, faults_up_to}
use Rattle.td_turns.proofs.ticks.tick_through.Goals as goal

pub loop-failed-preserved : goal.loop-failed-preserved
loop-failed-preserved g c =
    let sum : c.saturating_add-failures.result ≡ min (c.loop-failed.failures + count_ones c.in-Some.failed) count_end = omega (arith, c.saturating_add-failures.ensures, c.from.ensures) in
    record {
      ran = ran_ticked c.loop-failed.invariant.ran c.in-Some.ensures.turn sum;
      ready = c.in-Some.ensures.again;
      receives = c.in-Some.ensures.receives ∙ c.loop-failed.invariant.receives;
      sends = faults_up_to _ _ (c.loop-failed.failures + count_ones c.in-Some.failed) _ (faults_on _ _ _ c.loop-failed.failures c.in-Some.failed c.loop-failed.invariant.sends c.in-Some.ensures.sends) sum;
      places = c.in-Some.ensures.places ∙ c.loop-failed.invariant.places;
      asked = Stays-Moves _ _ _ _ c.loop-failed.invariant.asked c.in-Some.ensures.asked;
    }
