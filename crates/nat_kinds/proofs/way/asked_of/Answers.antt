use Rattle.nat_kinds.proofs.Words.{rules}
use Rattle.nat_kinds.proofs.way.asked_of.Goals as goal

pub returns-in-Restricted : goal.returns-in-Restricted
returns-in-Restricted c = search rules
