use Rattle.world.proofs.Words.{None, ap, node_at, reach, reach_node, sym, ◌∙◌, ◌≡◌}
use Rattle.world.proofs.route.route_to.Goals as goal

pub returns-in-None-clause-route : goal.returns-in-None-clause-route
returns-in-None-clause-route c =
    let t = c.args.topology.now in
    let none : node_at t c.in-Some.node ≡ None = ap (node_at t) (sym c.from.ensures) ∙ sym c.node.ensures.found ∙ c.in-None.is in
    sym (ap (reach t) c.in-Some.is ∙ ap (reach_node c.in-Some.node) none)
