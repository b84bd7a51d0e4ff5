use Rattle.lab_nodes.proofs.Words.{AnswersOrWants}
use Rattle.lab_nodes.proofs.Quiet.{others_quiet}
use Rattle.lab_nodes.proofs.nodes.Nodes.ask.Goals as goal

pub look_again-requires-clause-others : goal.look_again-requires-clause-others
look_again-requires-clause-others c =
    let nodes = c.self.inside in
    let new = c.ask_at-asked.new.nodes.items in
    let does = AnswersOrWants c.args.call c.args.step.now c.ask_at-asked.new.step c.ask_at-asked.result in
    let others = others_quiet does c.args.call.node nodes.list.items new nodes.quiet.items c.self.invariant.each c.ask_at-asked.ensures.answers in
    rw (c.as_slice.ensures.value, c.deref_mut.ensures.value) others

pub look_again-requires-clause-soonest : goal.look_again-requires-clause-soonest
look_again-requires-clause-soonest c = rw (c.deref_mut.ensures.value) c.self.invariant.none

pub returns-clause-answers : goal.returns-clause-answers
returns-clause-answers c = rw (← c.self.view_is) c.ask_at-asked.ensures.answers
