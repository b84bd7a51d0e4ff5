use Rattle.world.proofs.Words.{ap, from_outside, lab_by, reach, sym, ◌∙◌}
use Rattle.world.proofs.lookup.Lookup.datagram_route.Goals as goal

pub returns-in-Some-clause-route : goal.returns-in-Some-clause-route
returns-in-Some-clause-route c = λ bytes d H is.
    let t = c.args.self.topology.now in
    c.route_at.ensures.route d H is
    ∙ ap (λ o. from_outside (lab_by d c.args.self) H c.args.self.now.0 c.args.src c.args.dst (reach t o)) (sym c.in-Some.is ∙ c.at.ensures)
