use Rattle.world.proofs.route.route_to_native.Goals as goal

pub returns-then-is_native-clause-route : goal.returns-then-is_native-clause-route
returns-then-is_native-clause-route c = λ d chain H m bytes packet dst. c.is_native.ensures.route c.if-is_native.true d chain H m bytes packet dst
