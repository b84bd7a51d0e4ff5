use Rattle.td_chain.proofs.Words.{length}
use Rattle.td_chain.proofs.rules.+each_once.Given as goal

abbrev pub decreases-each_once : goal.decreases-each_once
decreases-each_once l = length l.chain.now
