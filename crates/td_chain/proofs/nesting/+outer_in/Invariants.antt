use Rattle.td_chain.proofs.Words.{length}
use Rattle.td_chain.proofs.nesting.+outer_in.Given as goal

abbrev pub decreases-outer_in : goal.decreases-outer_in
decreases-outer_in l = length l.chain.now
