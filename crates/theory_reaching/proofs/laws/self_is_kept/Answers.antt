use Rattle.theory_reaching.proofs.LawProofs.{self_is_kept}
use Rattle.theory_reaching.proofs.laws.self_is_kept.Goals as goal

pub returns : goal.returns
returns c = self_is_kept
