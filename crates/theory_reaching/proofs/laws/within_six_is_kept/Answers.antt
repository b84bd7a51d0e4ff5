use Rattle.theory_reaching.proofs.LawProofs.{within_six_is_kept}
use Rattle.theory_reaching.proofs.laws.within_six_is_kept.Goals as goal

pub returns : goal.returns
returns c = within_six_is_kept
