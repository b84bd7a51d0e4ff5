use Rattle.theory_ways.proofs.LawProofs.{replies_are_let_in}
use Rattle.theory_ways.proofs.laws.replies_are_let_in.Goals as goal

pub returns : goal.returns
returns c = replies_are_let_in
