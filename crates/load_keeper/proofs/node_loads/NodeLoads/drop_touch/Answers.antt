use Rattle.load_keeper.proofs.Words.{refl, sym, touches_peer}
use Rattle.load_keeper.proofs.Touches.{apart_without, none_passes, others_are}
use Rattle.load_keeper.proofs.node_loads.NodeLoads.drop_touch.Goals as goal

pub returns-in_default-clause-touches : goal.returns-in_default-clause-touches
returns-in_default-clause-touches c = sym (none_passes (touches_peer c.args.who) c.args.self.now.touches.items (rw c.deref.ensures.value at (c.in_default.ensures.none refl)))

pub invariant_of-self : goal.invariant_of-self
invariant_of-self c =
    let there = rw c.deref.ensures.value at c.in-Some.ensures.found in
    record { apart = apart_without c.args.who c.args.self.now.touches.items c.in-Some.place c.args.self.now.apart there c.remove.new.self.items c.remove.ensures.by_index.2 }

pub returns-clause-touches : goal.returns-clause-touches
returns-clause-touches c =
    let there = rw c.deref.ensures.value at c.in-Some.ensures.found in
    others_are c.args.who c.args.self.now.touches.items c.in-Some.place c.args.self.now.apart there c.remove.new.self.items c.remove.ensures.by_index.2
