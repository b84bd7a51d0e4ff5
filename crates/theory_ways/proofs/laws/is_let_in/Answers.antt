use Rattle.theory_ways.proofs.LawProofs.{is_let_in}
use Rattle.theory_ways.proofs.laws.is_let_in.Goals as goal

pub returns : goal.returns
returns c = is_let_in
