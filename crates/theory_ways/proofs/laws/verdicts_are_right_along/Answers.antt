use Rattle.theory_ways.proofs.LawProofs.{verdicts_are_right_along}
use Rattle.theory_ways.proofs.laws.verdicts_are_right_along.Goals as goal

pub returns : goal.returns
returns c = verdicts_are_right_along
