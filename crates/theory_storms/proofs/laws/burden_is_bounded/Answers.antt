use Rattle.theory_storms.proofs.LawProofs.{burden_is_bounded}
use Rattle.theory_storms.proofs.laws.burden_is_bounded.Goals as goal

pub returns : goal.returns
returns c = burden_is_bounded
