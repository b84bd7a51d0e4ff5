use Rattle.world.proofs.Words.{IfSome_then, IsWorld, List, PlayedNode, ap, lab_on, state_of, subst, sym}
use Rattle.world.proofs.Ticking.{found_first}
use Rattle.world.proofs.world.World.due_by.Goals as goal

pub invariant_of-self : goal.invariant_of-self
invariant_of-self c =
    let w = c.self.inside in
    subst (λ (list : List PlayedNode). IsWorld w.topology.now w.nats w.moment.0 w.going list) (sym c.first_due_by.ensures.same) c.self.invariant

pub returns-clause-due : goal.returns-clause-due
returns-clause-due c =
    let w = c.self.inside in
    rw (← c.self.view_is) (λ d H s.
    let lab = lab_on d w.topology.now w.nats.chain in
    IfSome_then c.first_due_by.result (c.first_due_by.ensures.due lab H s.nodes s.moment) (found_first lab H))

pub returns-clause-none : goal.returns-clause-none
returns-clause-none c =
    let w = c.self.inside in
    rw (← c.self.view_is) (λ d H s. c.first_due_by.ensures.none (lab_on d w.topology.now w.nats.chain) H s.nodes s.moment)

pub returns-clause-same : goal.returns-clause-same
returns-clause-same c =
    let w = c.self.inside in
    rw (← c.self.view_is) (ap (λ (list : List PlayedNode). state_of w.topology.now w.nats w.moment.0 w.going w.armed list w.wire w.stopped) c.first_due_by.ensures.same)
