use Rattle.theory_reaching.proofs.LawProofs.{within_five_is_kept}
use Rattle.theory_reaching.proofs.laws.within_five_is_kept.Goals as goal

pub returns : goal.returns
returns c = within_five_is_kept
