use Rattle.legal.proofs.LawProofs.{advances_are_bounded}
use Rattle.legal.proofs.laws.advances_are_bounded.Goals as goal

pub returns : goal.returns
returns c = advances_are_bounded
