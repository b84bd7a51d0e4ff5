use Rattle.theory_storms.proofs.LawProofs.{follow_from_one}
use Rattle.theory_storms.proofs.laws.follow_from_one.Goals as goal

pub returns : goal.returns
returns c = follow_from_one
