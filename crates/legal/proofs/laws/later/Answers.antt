use Rattle.legal.proofs.LawProofs.{later}
use Rattle.legal.proofs.laws.later.Goals as goal

pub returns : goal.returns
returns c = later
