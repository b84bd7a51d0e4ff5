use Rattle.legal.proofs.LawProofs.{nat_pasts}
use Rattle.legal.proofs.laws.nat_pasts.Goals as goal

pub returns : goal.returns
returns c = nat_pasts
