use Rattle.legal.proofs.LawProofs.{nat_grows}
use Rattle.legal.proofs.laws.nat_grows.Goals as goal

pub returns : goal.returns
returns c = nat_grows
