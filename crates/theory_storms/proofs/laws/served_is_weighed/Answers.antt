use Rattle.theory_storms.proofs.LawProofs.{served_is_weighed}
use Rattle.theory_storms.proofs.laws.served_is_weighed.Goals as goal

pub returns : goal.returns
returns c = served_is_weighed
