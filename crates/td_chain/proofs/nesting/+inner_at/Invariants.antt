use Rattle.td_chain.proofs.Words.{length}
use Rattle.td_chain.proofs.nesting.+inner_at.Given as goal

abbrev pub decreases-inner_at : goal.decreases-inner_at
decreases-inner_at l = length l.chain.now
