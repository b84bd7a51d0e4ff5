use Rattle.load_keeper.proofs.Touches.{found_is}
use Rattle.load_keeper.proofs.node_loads.NodeLoads.find_touch.Goals as goal

pub returns-in-Some : goal.returns-in-Some
returns-in-Some c =
    let there = rw c.deref.ensures.value at c.in-Some.ensures.found in
    found_is c.args.who c.args.self.now.touches.items c.in-Some.place c.args.self.now.apart there c.index.result.now c.index.ensures
