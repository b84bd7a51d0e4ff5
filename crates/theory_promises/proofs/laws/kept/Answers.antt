use Rattle.theory_promises.proofs.LawProofs.{kept}
use Rattle.theory_promises.proofs.laws.kept.Goals as goal

pub returns : goal.returns
returns c = kept
