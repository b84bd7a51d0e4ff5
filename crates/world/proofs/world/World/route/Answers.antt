use Rattle.world.proofs.world.World.route.Goals as goal

pub likely_route-requires : goal.likely_route-requires
likely_route-requires c = record { lookup = record { same = c.self.invariant.same; clock = c.self.invariant.clock } }

pub returns : goal.returns
returns c = rw (← c.self.view_is) (record {
  there = c.likely_route.ensures.there;
  route = λ d H bytes s. c.likely_route.ensures.route bytes d H s.nats;
})
