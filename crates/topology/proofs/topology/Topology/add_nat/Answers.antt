use Rattle.topology.proofs.Words.{rules}
use Rattle.topology.proofs.topology.Topology.add_nat.Goals as goal

pub returns-clause-ok : goal.returns-clause-ok
returns-clause-ok c = search rules
