use Rattle.td_chain.proofs.Words.{length}
use Rattle.td_chain.proofs.outside.+cone_from.Given as goal

abbrev pub decreases-cone_from : goal.decreases-cone_from
decreases-cone_from l = length l.at_most.now
