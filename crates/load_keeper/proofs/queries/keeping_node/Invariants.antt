use Rattle.load_keeper.proofs.Words.{NodeLoads, drop, keeping_node, keeps_load, node_kept, position_from, ◌≡◌}
use Rattle.load_keeper.proofs.queries.keeping_node.Given as goal

abbrev pub invariant-loop-place : goal.invariant-loop-place
invariant-loop-place l = position_from (λ (s : NodeLoads). keeps_load l.held l.load l.moment.0 (node_kept s)) l.place (drop l.place l.nodes) ≡ keeping_node l.held l.load l.moment.0 l.nodes
