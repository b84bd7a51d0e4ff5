use Rattle.td_chain.proofs.Words.{length}
use Rattle.td_chain.proofs.outside.+symmetric_from.Given as goal

abbrev pub decreases-symmetric_from : goal.decreases-symmetric_from
decreases-symmetric_from l = length l.at_most.now
