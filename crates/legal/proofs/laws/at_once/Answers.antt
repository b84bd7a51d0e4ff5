use Rattle.legal.proofs.LawProofs.{at_once}
use Rattle.legal.proofs.laws.at_once.Goals as goal

pub returns : goal.returns
returns c = at_once
