use Rattle.theory_storms.proofs.LawProofs.{deliveries_end}
use Rattle.theory_storms.proofs.laws.deliveries_end.Goals as goal

pub returns : goal.returns
returns c = deliveries_end
