use Rattle.td_chain.proofs.Words.{rules}
use Rattle.td_chain.proofs.rules.is_link.Goals as goal

pub returns-then-nesting : goal.returns-then-nesting
returns-then-nesting c = search rules
