use Rattle.td_chain.proofs.Words.{length}
use Rattle.td_chain.proofs.rules.+len_from.Given as goal

abbrev pub decreases-len_from : goal.decreases-len_from
decreases-len_from l = length l.at_most.now
