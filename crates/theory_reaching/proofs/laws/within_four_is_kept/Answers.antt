use Rattle.theory_reaching.proofs.LawProofs.{within_four_is_kept}
use Rattle.theory_reaching.proofs.laws.within_four_is_kept.Goals as goal

pub returns : goal.returns
returns c = within_four_is_kept
