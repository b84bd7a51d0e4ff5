use Rattle.world.proofs.Words.{Node, None, Some, ap, from_outside, is_nat, lab_by, node_at, reach_node, sym, ◌∙◌, ◌≡◌}
use Rattle.world.proofs.Routes.{comes_straight}
use Rattle.world.proofs.lookup.Lookup.route_at.Goals as goal

pub returns-in_default-clause-route : goal.returns-in_default-clause-route
returns-in_default-clause-route c = λ d H is.
    let t = c.args.self.topology.now in
    let none : node_at t c.args.at ≡ None = ap (node_at t) (sym c.from.ensures) ∙ sym c.node.ensures.found ∙ c.in_default.is in
    sym (ap (λ o. from_outside (lab_by d c.args.self) H c.args.self.now.0 c.args.src c.args.dst (reach_node c.args.at o)) none)

pub route_through-requires-clause-nat : goal.route_through-requires-clause-nat
route_through-requires-clause-nat c =
    let t = c.args.self.topology.now in
    ap is_nat (ap (node_at t) (sym c.from.ensures) ∙ sym c.node.ensures.found ∙ c.in-Some.is ∙ ap (λ (a : Node). Some a) c.in-Nat.is)

pub returns-in_default-node-clause-route : goal.returns-in_default-node-clause-route
returns-in_default-node-clause-route c = λ d H is.
    let t = c.args.self.topology.now in
    let there : node_at t c.args.at ≡ Some c.in-Some.node = ap (node_at t) (sym c.from.ensures) ∙ sym c.node.ensures.found ∙ c.in-Some.is in
    comes_straight (lab_by d c.args.self) H c.args.self.now.0 c.args.at c.args.src c.args.dst c.in-Some.node there c.in_default-node.not-Nat
