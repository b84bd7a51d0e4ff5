use Rattle.theory_storms.proofs.LawProofs.{nine_follow}
use Rattle.theory_storms.proofs.laws.nine_follow.Goals as goal

pub returns : goal.returns
returns c = nine_follow
