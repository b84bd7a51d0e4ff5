use Rattle.lab_nodes.proofs.Words.{arith, nat_tests, sym, ◌<◌, ◌∙◌}
use Rattle.lab_nodes.proofs.Quiet.{later_than, nothing_found}
use Rattle.lab_nodes.proofs.due.by.Goals as goal

pub returns-in_default-clause-none : goal.returns-in_default-clause-none
returns-in_default-clause-none c = λ f is. nothing_found c.args.end.0 c.args.first f c.in_default.is is

pub returns-then-end-one-clause-none : goal.returns-then-end-one-clause-none
returns-then-end-one-clause-none c =
    let test = c.if-end-one.true in
    let after : c.args.end.0 < c.in-Some.one.moment.0 = grind (arith, nat_tests) in
    λ f is. later_than c.args.end.0 c.args.first c.in-Some.one f c.in-Some.is after is

pub returns-clause-due : goal.returns-clause-due
returns-clause-due c = λ f is. sym c.in-Some.is ∙ is
