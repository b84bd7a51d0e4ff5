use Rattle.theory_storms.proofs.LawProofs.{falls}
use Rattle.theory_storms.proofs.laws.falls.Goals as goal

pub returns : goal.returns
returns c = falls
