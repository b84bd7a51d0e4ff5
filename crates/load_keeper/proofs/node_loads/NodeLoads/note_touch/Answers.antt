use Rattle.load_keeper.proofs.Touches.{apart_pushed}
use Rattle.load_keeper.proofs.node_loads.NodeLoads.note_touch.Goals as goal

pub invariant_of-self : goal.invariant_of-self
invariant_of-self c = record {
  apart = apart_pushed c.args.who c.args.now c.args.self.now.touches.items c.drop_touch.new.self.touches.items c.push.new.self.items _ c.args.self.now.apart c.drop_touch.ensures.touches c.push.ensures.items;
}
