use Rattle.nat_kinds.proofs.Words.{rules}
use Rattle.nat_kinds.proofs.way.key_of.Goals as goal

pub returns-in-Symmetric : goal.returns-in-Symmetric
returns-in-Symmetric c = search rules
