use Rattle.td_chain.proofs.Words.{length}
use Rattle.td_chain.proofs.leave.+leave_on.Given as goal

abbrev pub decreases-leave_on : goal.decreases-leave_on
decreases-leave_on l = length l.at_most.now
