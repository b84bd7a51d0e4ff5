use Rattle.theory_ways.proofs.LawProofs.{neighbours_are_unheard}
use Rattle.theory_ways.proofs.laws.neighbours_are_unheard.Goals as goal

pub returns : goal.returns
returns c = neighbours_are_unheard
