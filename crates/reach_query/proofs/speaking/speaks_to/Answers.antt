use Rattle.reach_query.proofs.Words.{ChainsStandFor, ChainsState, IsTopology, TopologyState, ap, chain_out, false≢true, is_from, is_nat, lab_in, nat_pasts, node_at, speaks_to, subst, sym, way_to, ◌∙◌, ◌≡◌}
use Rattle.reach_query.proofs.Spoken.{its_nat}
use Rattle.reach_query.proofs.speaking.speaks_to.Goals as goal

pub returns-then-not-is_nat : goal.returns-then-not-is_nat
returns-then-not-is_nat c = λ d H s here.
    let row = c.args.a.row in
    let rules = subst IsTopology c.topology-topology.ensures c.is_nat.ensures.rules in
    absurd (false≢true (sym c.if-not-is_nat.true ∙ c.is_nat.ensures.is ∙ ap (λ (t : TopologyState). is_nat (node_at t row.nat)) c.topology-topology.ensures
    ∙ its_nat c.args.world.now.topology c.args.a.number row rules here.there))

pub returns : goal.returns
unfolding speaks_to
returns c = λ d H s here.
    let w = c.args.world.now in
    let lab = lab_in d w in
    let row = c.args.a.row in
    let nats = c.nats.ensures in
    let moment = c.moment.ensures.value ∙ s.moment in
    let stands = subst (λ (z : ChainsState). ChainsStandFor z (nat_pasts lab H)) (sym nats.kept) s.nats.stands in
    let leaves : c.leaves.result ≡ (way_to lab H row c.args.dst).leaves = c.leaves.ensures (nat_pasts lab H) stands
    ∙ (λ i. chain_out (nats.same i) (nats.chain i) (nat_pasts lab H) (moment i) row.nat row.inside c.args.dst) in
    c.is_from.ensures ∙ (λ i. is_from (c.embedded.ensures i) (leaves i))
