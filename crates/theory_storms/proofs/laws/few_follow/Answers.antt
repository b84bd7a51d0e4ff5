use Rattle.theory_storms.proofs.LawProofs.{few_follow}
use Rattle.theory_storms.proofs.laws.few_follow.Goals as goal

pub returns : goal.returns
returns c = few_follow
