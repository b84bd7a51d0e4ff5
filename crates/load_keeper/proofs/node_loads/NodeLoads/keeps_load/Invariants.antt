use Rattle.load_keeper.proofs.Words.{KeptLoad, carries_load, false, list_any, lists_peer, take, ◌&&◌, ◌≡◌}
use Rattle.load_keeper.proofs.node_loads.NodeLoads.keeps_load.Given as goal

abbrev pub invariant-loop-one : goal.invariant-loop-one
invariant-loop-one l = record {
  same : l.one-items ≡ l.self.kept.items;
  none : list_any (λ (k : KeptLoad). carries_load l.held l.load k && lists_peer l.self.touches.items l.moment.0 k.who) (take l.one-index l.one-items) ≡ false;
}
