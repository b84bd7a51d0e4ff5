use Rattle.legal.proofs.LawProofs.{is_reached}
use Rattle.legal.proofs.laws.is_reached.Goals as goal

pub returns : goal.returns
returns c = is_reached
