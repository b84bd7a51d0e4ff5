use Rattle.td_chain.proofs.Words.{rules}
use Rattle.td_chain.proofs.outside.outermost.Goals as goal

pub returns : goal.returns
returns c = search rules
