use Rattle.world.proofs.Words.{TopologyState, ap, chain_in, inward_of, lab_by, nat_pasts, route_in, sym, ◌∙◌, ◌≡◌}
use Rattle.world.proofs.Routes.{comes_in}
use Rattle.world.proofs.lookup.Lookup.route_through.Goals as goal

pub returns-clause-route : goal.returns-clause-route
returns-clause-route c = λ d H is.
    let t = c.args.self.topology.now in
    let nats = c.args.self.nats.now in
    let lab = lab_by d c.args.self in
    let m = c.args.self.now.0 in
    let comes : inward_of c.inward.result ≡ chain_in t nats.chain (nat_pasts lab H) m c.args.at c.args.src c.args.dst.port =
    c.inward.ensures (nat_pasts lab H) is.stands ∙ ap (λ (x : TopologyState). chain_in x nats.chain (nat_pasts lab H) m c.args.at c.args.src c.args.dst.port) c.requires.lookup.same in
    c.route_inside.ensures.route ∙ ap (route_in t) comes ∙ comes_in lab H m c.args.at c.args.src c.args.dst c.requires.nat (sym c.is_inner.ensures ∙ c.if-is_inner.false)
