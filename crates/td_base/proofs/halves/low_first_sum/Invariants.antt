use Rattle.td_base.proofs.Words.{IsSummedOn, length}
use Rattle.td_base.proofs.halves.low_first_sum.Given as goal

abbrev pub invariant-loop-rest : goal.invariant-loop-rest
invariant-loop-rest l = IsSummedOn 0 l.bytes l.sum l.rest

abbrev pub decreases-loop-rest : goal.decreases-loop-rest
decreases-loop-rest l = length l.rest
