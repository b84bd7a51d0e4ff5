use Rattle.theory_reaching.proofs.LawProofs.{moved_straight_is_kept}
use Rattle.theory_reaching.proofs.laws.moved_straight_is_kept.Goals as goal

pub returns : goal.returns
returns c = moved_straight_is_kept
