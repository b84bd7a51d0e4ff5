use Rattle.legal.proofs.LawProofs.{made}
use Rattle.legal.proofs.laws.made.Goals as goal

pub returns : goal.returns
returns c = made
