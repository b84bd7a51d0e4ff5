use Rattle.world.proofs.Words.{Way, ap, inward_of, reach, route_in, sym, ◌∙◌}
use Rattle.world.proofs.route.route_inside.Goals as goal

pub returns-in-In-clause-route : goal.returns-in-In-clause-route
returns-in-In-clause-route c =
    let t = c.args.topology.now in
    c.route_to.ensures.route ∙ ap (reach t) c.client_behind.ensures ∙ ap (λ (w : Way). route_in t (inward_of w)) (sym c.in-In.is)
