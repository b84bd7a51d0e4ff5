use Rattle.lab_nodes.proofs.Words.{Restarts}
use Rattle.lab_nodes.proofs.Quiet.{others_quiet}
use Rattle.lab_nodes.proofs.nodes.Nodes.restart_at.Goals as goal

pub look_again-requires-clause-others : goal.look_again-requires-clause-others
look_again-requires-clause-others c =
    let nodes = c.self.inside in
    let new = c.restart_at.new.nodes.items in
    let others = others_quiet (Restarts c.args.now.0) c.args.number nodes.list.items new nodes.quiet.items c.self.invariant.each c.restart_at.ensures.restarts in
    rw (c.as_slice.ensures.value, c.deref_mut.ensures.value) others

pub look_again-requires-clause-soonest : goal.look_again-requires-clause-soonest
look_again-requires-clause-soonest c = rw (c.deref_mut.ensures.value) c.self.invariant.none

pub returns-clause-ready : goal.returns-clause-ready
returns-clause-ready c = rw (← c.self.view_is) c.restart_at.ensures.ready

pub returns-clause-restarts : goal.returns-clause-restarts
returns-clause-restarts c = rw (← c.self.view_is) c.restart_at.ensures.restarts
