use Rattle.lab_nodes.proofs.Words.{take, ◌≡◌}
use Rattle.lab_nodes.proofs.Served.{served_of}
use Rattle.lab_nodes.proofs.first_node.served.Given as goal

abbrev pub invariant-loop-row : goal.invariant-loop-row
invariant-loop-row l = l.list.items ≡ served_of l.number (take l.row-index l.topology.natives)
