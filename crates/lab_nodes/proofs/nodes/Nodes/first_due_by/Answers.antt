use Rattle.lab_nodes.proofs.Words.{AreReady, Due, IfSome, List, Millis, NodesOf, NoneIsSooner, PlayedNode, arith, least_due, length, nat_tests, nodes, subst, sym, ℕ, ◌+◌, ◌<◌, ◌≤◌}
use Rattle.lab_nodes.proofs.Quiet.{none_before_soonest, none_due}
use Rattle.lab_nodes.proofs.nodes.Nodes.first_due_by.Goals as goal

pub returns-then-end-self-clause-none : goal.returns-then-end-self-clause-none
returns-then-end-self-clause-none c =
    let is = c.self.inside in
    let m : ℕ = c.args.end.0 + 1 in
    let test = c.if-end-self.true in
    let late : m ≤ is.soonest.0 = grind (arith, nat_tests) in
    let before = none_before_soonest m is.soonest is.list.items is.quiet.items c.self.invariant late in
    let ready : AreReady c.args.at.0 is.list.items = subst (λ (list : List PlayedNode). AreReady c.args.at.0 list) (sym c.self.view_is) c.requires.ready in
    rw (← c.self.view_is) (λ lab H of e. none_due lab H c.args.end.0 is.list.items before (subst (λ (k : ℕ). AreReady k is.list.items) e ready) of)

pub invariant_of-self : goal.invariant_of-self
invariant_of-self c = record {
  each = c.self.invariant.each;
  none = subst (λ (quiet : List Millis). NoneIsSooner c.soonest_of-self-inside.result quiet) c.as_slice-in_default.ensures.value c.soonest_of-self-inside.ensures;
}

pub returns-clause-within : goal.returns-clause-within
returns-clause-within c =
    let list = c.self.inside.list.items in
    let within = subst (λ (ps : List PlayedNode). IfSome c.first_due-first.result (λ (x : Due). x.node < length ps)) c.as_slice.ensures.value c.first_due-first.ensures.within in
    rw (← c.self.view_is) (c.in-Some.ensures.within (length list) within)

pub returns-clause-due : goal.returns-clause-due
returns-clause-due c = rw (← c.self.view_is) (λ lab H of e.
    c.in-Some.ensures.due (least_due lab H 0 (nodes lab.topology)) (c.first_due-first.ensures.first lab H (subst (λ (ps : List PlayedNode). NodesOf lab ps H) (sym c.as_slice.ensures.value) of) e))

pub returns-in_default-clause-none : goal.returns-in_default-clause-none
returns-in_default-clause-none c = rw (← c.self.view_is) (λ lab H of e.
    c.in_default.ensures.none (least_due lab H 0 (nodes lab.topology)) (c.first_due-first.ensures.first lab H (subst (λ (ps : List PlayedNode). NodesOf lab ps H) (sym c.as_slice.ensures.value) of) e))
