use Rattle.td_chain.proofs.Words.{length}
use Rattle.td_chain.proofs.rules.+are_links.Given as goal

abbrev pub decreases-are_links : goal.decreases-are_links
decreases-are_links l = length l.list.now
