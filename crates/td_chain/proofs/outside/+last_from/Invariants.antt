use Rattle.td_chain.proofs.Words.{length}
use Rattle.td_chain.proofs.outside.+last_from.Given as goal

abbrev pub decreases-last_from : goal.decreases-last_from
decreases-last_from l = length l.at_most.now
