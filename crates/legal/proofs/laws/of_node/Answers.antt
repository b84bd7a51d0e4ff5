use Rattle.legal.proofs.LawProofs.{of_node}
use Rattle.legal.proofs.laws.of_node.Goals as goal

pub returns : goal.returns
returns c = of_node
