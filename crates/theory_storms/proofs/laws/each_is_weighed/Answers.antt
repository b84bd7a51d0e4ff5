use Rattle.theory_storms.proofs.LawProofs.{each_is_weighed}
use Rattle.theory_storms.proofs.laws.each_is_weighed.Goals as goal

pub returns : goal.returns
returns c = each_is_weighed
