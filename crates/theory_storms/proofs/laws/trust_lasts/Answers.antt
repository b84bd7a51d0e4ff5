use Rattle.theory_storms.proofs.LawProofs.{trust_lasts}
use Rattle.theory_storms.proofs.laws.trust_lasts.Goals as goal

pub returns : goal.returns
returns c = trust_lasts
