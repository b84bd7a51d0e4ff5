use Rattle.world.proofs.lookup.Lookup.route_of.Goals as goal

pub returns-in-Udp-clause-route : goal.returns-in-Udp-clause-route
returns-in-Udp-clause-route c = λ d H is. rw (c.in-Udp.is) (c.route_of_datagram.ensures.route c.in-Udp.bytes.now d H is)

pub returns-in-Six-clause-route : goal.returns-in-Six-clause-route
returns-in-Six-clause-route c = λ d H is. rw (c.in-Six.is) (c.packet_route.ensures.route d c.args.self.nats.now.chain H c.args.self.now.0)
