use Rattle.td_chain.proofs.Words.{length}
use Rattle.td_chain.proofs.leave.+let_out_on.Given as goal

abbrev pub decreases-let_out_on : goal.decreases-let_out_on
decreases-let_out_on l = length l.at_most.now
