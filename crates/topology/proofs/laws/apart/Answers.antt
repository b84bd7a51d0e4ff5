use Rattle.topology.proofs.LawProofs.{apart}
use Rattle.topology.proofs.laws.apart.Goals as goal

pub returns : goal.returns
returns c = apart
