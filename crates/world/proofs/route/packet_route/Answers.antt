use Rattle.world.proofs.Words.{Fields, ap}
use Rattle.world.proofs.route.packet_route.Goals as goal

pub returns-in-Ok-clause-route : goal.returns-in-Ok-clause-route
returns-in-Ok-clause-route c = λ d chain H m.
    rw (c.in_default.is) (c.route_to_native.ensures.route d chain H m c.args.bytes.now c.in-Ok.ensures.seen.0 (ap (λ (f : Fields). f.dst) c.in-Ok.ensures.seen.1))
