use Rattle.world.proofs.Words.{EntersBy, Node, Some, Way, ap, client, inward_of, is_reached, is_shut_out, lab_by, node_at, reach_node, subst, sym, udp, ◌∙◌, ◌≡◌}
use Rattle.world.proofs.lookup.Lookup.guessed_route.Goals as goal

pub returns-in-Closed-clause-route : goal.returns-in-Closed-clause-route
returns-in-Closed-clause-route c = λ bytes d H is.
    let t = c.args.self.topology.now in
    let lab = lab_by d c.args.self in
    let m = c.args.self.now.0 in
    let shut = subst (λ (w : Way). EntersBy lab H m c.args.src c.args.dst (inward_of w)) c.in-Closed.is (c.in_ok-way.ensures d H is) in
    sym (is_shut_out lab H m c.args.src c.args.dst bytes c.in-Closed.nat c.clients-rules.ensures.rules shut)

pub returns-then-is_inside-clause-route : goal.returns-then-is_inside-clause-route
returns-then-is_inside-clause-route c = λ bytes d H is.
    let t = c.args.self.topology.now in
    let lab = lab_by d c.args.self in
    let m = c.args.self.now.0 in
    let row = c.in-Client.client in
    let there : node_at t c.args.number ≡ Some (client row) =
    ap (node_at t) (sym c.from.ensures) ∙ sym c.in_ok-node.ensures.found ∙ ap (λ (a : Node). Some a) c.in-Client.is in
    let in_ = subst (λ (w : Way). EntersBy lab H m c.args.src c.args.dst (inward_of w)) c.in-In.is (c.in_ok-way.ensures d H is) in
    let goes = subst (EntersBy lab H m c.args.src c.args.dst) (c.is_inside.ensures c.if-is_inside.true) in_ in
    ap (reach_node c.args.number) there
    ∙ sym (is_reached lab H m (udp c.args.src c.args.dst bytes) c.args.number (client row) c.clients-rules.ensures.rules there goes)
