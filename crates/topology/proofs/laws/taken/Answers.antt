use Rattle.topology.proofs.LawProofs.{taken}
use Rattle.topology.proofs.laws.taken.Goals as goal

pub returns : goal.returns
returns c = taken
