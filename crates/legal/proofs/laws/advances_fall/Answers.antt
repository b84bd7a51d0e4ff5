use Rattle.legal.proofs.LawProofs.{advances_fall}
use Rattle.legal.proofs.laws.advances_fall.Goals as goal

pub returns : goal.returns
returns c = advances_fall
