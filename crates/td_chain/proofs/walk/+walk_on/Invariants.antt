use Rattle.td_chain.proofs.Words.{length}
use Rattle.td_chain.proofs.walk.+walk_on.Given as goal

abbrev pub decreases-walk_on : goal.decreases-walk_on
decreases-walk_on l = length l.at_most.now
