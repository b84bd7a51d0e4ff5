use Rattle.nat_kinds.proofs.Words.{rules}
use Rattle.nat_kinds.proofs.mappings.room.Goals as goal

pub returns-clause-ok_asked : goal.returns-clause-ok_asked
returns-clause-ok_asked c = search rules
