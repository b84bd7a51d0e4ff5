use Rattle.theory_reaching.proofs.LawProofs.{moved_is_kept}
use Rattle.theory_reaching.proofs.laws.moved_is_kept.Goals as goal

pub returns : goal.returns
returns c = moved_is_kept
