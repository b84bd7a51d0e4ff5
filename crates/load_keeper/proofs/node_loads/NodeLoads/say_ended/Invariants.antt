use Rattle.load_keeper.proofs.Words.{Ip6, flat_map, loads_known_or_none, node_kept, says_of_held, take, ◌++◌, ◌≡◌}
use Rattle.load_keeper.proofs.node_loads.NodeLoads.say_ended.Given as goal

abbrev pub invariant-loop-peer : goal.invariant-loop-peer
invariant-loop-peer l = l.said.items ≡ l.fn.said.items ++ flat_map (λ (p : Ip6). says_of_held l.late (loads_known_or_none (node_kept l.self) l.now.0 p).held) (take l.peer-index l.dropped)
