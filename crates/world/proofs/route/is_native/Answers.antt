use Rattle.world.proofs.Words.{Ip6, Node, None, Some, ap, fields_in, is_reached, lab_on, native, node_at, reach_node, same_ip6, six, sym, true, ◌∙◌, ◌≡◌}
use Rattle.world.proofs.route.is_native.Goals as goal

pub returns-clause-route : goal.returns-clause-route
returns-clause-route c = λ yes d chain H m bytes packet dst.
    let t = c.args.topology.now in
    let row = c.in-Native.row in
    let there : node_at t c.args.number ≡ Some (native row) =
    ap (node_at t) (sym c.from.ensures) ∙ sym c.node.ensures.found ∙ c.in-Some.is ∙ ap (λ (a : Node). Some a) c.in-Native.is in
    let its : same_ip6 (fields_in bytes).dst row.six ≡ true = ap (λ (ip : Ip6). same_ip6 ip row.six) dst ∙ sym c.eq.ensures ∙ yes in
    ap (reach_node c.args.number) there
    ∙ sym (is_reached (lab_on d t chain) H m (six None bytes) c.args.number (native row) c.clients-rules.ensures.rules there (record { packet = packet; destination = its }))
