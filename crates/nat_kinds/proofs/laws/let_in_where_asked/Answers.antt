use Rattle.nat_kinds.proofs.LawProofs.{let_in_where_asked}
use Rattle.nat_kinds.proofs.laws.let_in_where_asked.Goals as goal

pub returns : goal.returns
returns c = let_in_where_asked
