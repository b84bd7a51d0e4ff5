use Rattle.theory_reaching.proofs.LawProofs.{off_is_kept}
use Rattle.theory_reaching.proofs.unreached.off_is_kept.Goals as goal

pub returns : goal.returns
returns c = off_is_kept
