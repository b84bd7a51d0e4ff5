use Rattle.td_chain.proofs.Words.{length}
use Rattle.td_chain.proofs.passing.+pass_on.Given as goal

abbrev pub decreases-pass_on : goal.decreases-pass_on
decreases-pass_on l = length l.at_most.now
