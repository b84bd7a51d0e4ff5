use Rattle.lab_nodes.proofs.Words.{rules}
use Rattle.lab_nodes.proofs.server.side_of.Goals as goal

pub returns-then-eq : goal.returns-then-eq
returns-then-eq c = search rules
