use Rattle.topology.proofs.LawProofs.{each_node}
use Rattle.topology.proofs.laws.each_node.Goals as goal

pub returns : goal.returns
returns c = each_node
