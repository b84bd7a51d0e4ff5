use Rattle.lab_nodes.proofs.Words.{Behind, List, NODES_MAX, draws, lab_on, length, ◌-◌}
use Rattle.lab_nodes.proofs.NodeLists.{FirstStand}
use Rattle.lab_nodes.proofs.first_node.first_nodes.Given as goal

abbrev pub invariant-loop-node : goal.invariant-loop-node
invariant-loop-node l = (chain : List Behind) → FirstStand (lab_on (draws l.seed) l.topology chain) l.list.items

abbrev pub decreases-loop-node : goal.decreases-loop-node
decreases-loop-node l = NODES_MAX - length l.list.items
