use Rattle.legal.proofs.LawProofs.{deliveries}
use Rattle.legal.proofs.laws.deliveries.Goals as goal

pub returns : goal.returns
returns c = deliveries
