use Rattle.load_keeper.proofs.Words.{AllByRecursion, NodeLoads, length, node_kept, nodes, nothing_kept, ◌-◌, ◌≡◌, ◌≤◌}
use Rattle.load_keeper.proofs.load_keeper.empty_nodes.Given as goal

abbrev pub invariant-loop-alloc : goal.invariant-loop-alloc
invariant-loop-alloc l = record {
  within : length l.nodes.items ≤ length (nodes l.t);
  empty : AllByRecursion (λ (s : NodeLoads). node_kept s ≡ nothing_kept) l.nodes.items;
}

abbrev pub decreases-loop-alloc : goal.decreases-loop-alloc
decreases-loop-alloc l = length (nodes l.t) - length l.nodes.items
