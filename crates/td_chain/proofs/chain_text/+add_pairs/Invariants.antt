use Rattle.td_chain.proofs.Words.{length}
use Rattle.td_chain.proofs.chain_text.+add_pairs.Given as goal

abbrev pub decreases-add_pairs : goal.decreases-add_pairs
decreases-add_pairs l = length l.text.now
