use Rattle.topology.proofs.Words.{rules}
use Rattle.topology.proofs.topology.Topology.add_server.Goals as goal

pub invariant_of-self-2 : goal.invariant_of-self-2
invariant_of-self-2 c = search rules

pub returns-clause-ok : goal.returns-clause-ok
returns-clause-ok c = search rules
