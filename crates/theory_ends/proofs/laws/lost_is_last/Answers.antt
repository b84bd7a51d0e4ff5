use Rattle.theory_ends.proofs.LawProofs.{lost_is_last}
use Rattle.theory_ends.proofs.laws.lost_is_last.Goals as goal

pub returns : goal.returns
returns c = lost_is_last
