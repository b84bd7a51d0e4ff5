use Rattle.qualify.proofs.LawProofs.{keeps_still}
use Rattle.qualify.proofs.laws.keeps_still.Goals as goal

pub returns : goal.returns
returns c = keeps_still
