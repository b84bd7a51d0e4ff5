use Rattle.theory_verdicts.proofs.LawProofs.{verdicts_are_right}
use Rattle.theory_verdicts.proofs.laws.verdicts_are_right.Goals as goal

pub returns : goal.returns
returns c = verdicts_are_right
