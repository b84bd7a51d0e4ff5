use Rattle.td_chain.proofs.Words.{length}
use Rattle.td_chain.proofs.entering.+go_in.Given as goal

abbrev pub decreases-go_in : goal.decreases-go_in
decreases-go_in l = length l.at_most.now
