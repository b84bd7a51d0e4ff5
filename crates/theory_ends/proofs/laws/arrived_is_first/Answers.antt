use Rattle.theory_ends.proofs.LawProofs.{arrived_is_first}
use Rattle.theory_ends.proofs.laws.arrived_is_first.Goals as goal

pub returns : goal.returns
returns c = arrived_is_first
