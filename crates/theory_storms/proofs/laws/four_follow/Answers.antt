use Rattle.theory_storms.proofs.LawProofs.{four_follow}
use Rattle.theory_storms.proofs.laws.four_follow.Goals as goal

pub returns : goal.returns
returns c = four_follow
