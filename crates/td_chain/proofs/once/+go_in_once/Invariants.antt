use Rattle.td_chain.proofs.Words.{length}
use Rattle.td_chain.proofs.once.+go_in_once.Given as goal

abbrev pub decreases-go_in_once : goal.decreases-go_in_once
decreases-go_in_once l = length l.at_most.now
