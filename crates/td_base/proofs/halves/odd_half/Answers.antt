use Rattle.td_base.proofs.Words.{rules}
use Rattle.td_base.proofs.halves.odd_half.Goals as goal

pub returns-in-len1 : goal.returns-in-len1
returns-in-len1 c = search rules
