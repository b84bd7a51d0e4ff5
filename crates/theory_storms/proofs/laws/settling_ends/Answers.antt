use Rattle.theory_storms.proofs.LawProofs.{settling_ends}
use Rattle.theory_storms.proofs.laws.settling_ends.Goals as goal

pub returns : goal.returns
returns c = settling_ends
