use Rattle.td_chain.proofs.Words.{ChainsState, Crosses, List, NatIsThere, NatState, NatsStand, Nesting, Option, after_passing, ap, behind_of, is_nat, map, node_at, set_ups, subst, sym, true, way_out, ◌∙◌, ◌≡◌}
use Rattle.td_chain.proofs.ThereLemmas.{nat_there, outer_is_nat, written, kept_later}
use Rattle.td_chain.proofs.chains.Chains.outward.Goals as goal

pub pass_out-requires-clause-there : goal.pass_out-requires-clause-there
pass_out-requires-clause-there c =
    let t = c.self.inside.topology.now in
    let is : is_nat (node_at t c.args.nat) ≡ true = subst (λ (x : ChainsState). is_nat (node_at x.topology c.args.nat) ≡ true) (sym c.self.view_is) c.requires.nat in
    subst (λ (list : List (Option NatState)). NatIsThere list c.args.nat) (sym c.deref_mut.ensures.value) (nat_there t c.self.inside.nats.items c.args.nat c.self.invariant.rows is)

pub pass_out-requires-clause-outer : goal.pass_out-requires-clause-outer
pass_out-requires-clause-outer c =
    let t = c.self.inside.topology.now in
    rw (c.deref_mut.ensures.value, c.as_slice.ensures.value) (λ k o e. nat_there t c.self.inside.nats.items o c.self.invariant.rows (outer_is_nat t _ k o c.self.invariant.rules e))

pub returns-clause-goes_out : goal.returns-clause-goes_out
returns-clause-goes_out c = rw (← c.self.view_is) (λ h passed stand.
    let same : set_ups c.pass_out.new.nats ≡ set_ups c.self.inside.nats.items = c.pass_out.ensures.rows ∙ ap (λ (x : List (Option NatState)). set_ups x) c.deref_mut.ensures.value in
    let t = c.self.inside.topology.now in
    let items = c.self.inside.nats.items in
    let way = way_out (map behind_of c.self.inside.chain.items) c.args.nat in
    let crosses : Crosses t h c.args.now.0 c.args.inside c.args.dst passed way c.pass_out.result c.pass_out.new.nats =
    subst (λ (chain : List Nesting). Crosses t h c.args.now.0 c.args.inside c.args.dst passed (way_out (map behind_of chain) c.args.nat) c.pass_out.result c.pass_out.new.nats) c.as_slice.ensures.value
    (c.pass_out.ensures.crosses t h passed (subst (λ (x : List (Option NatState)). NatsStand t x (after_passing passed h)) (sym c.deref_mut.ensures.value) stand)) in
    subst (λ (x : List (Option NatState)). Crosses t h c.args.now.0 c.args.inside c.args.dst passed way c.pass_out.result x) (sym (written items c.pass_out.new.nats c.self.inside.nats.len c.self.inside.nats.ok.0 same)) crosses)

pub invariant_of-self : goal.invariant_of-self
invariant_of-self c =
    let same : set_ups c.pass_out.new.nats ≡ set_ups c.self.inside.nats.items = c.pass_out.ensures.rows ∙ ap (λ (x : List (Option NatState)). set_ups x) c.deref_mut.ensures.value in
    kept_later c.self.inside.topology.now (map behind_of c.self.inside.chain.items) c.args.now.0 c.self.inside.nats.items c.pass_out.new.nats c.self.inside.nats.len c.self.inside.nats.ok.0 same
    c.self.invariant.rules c.self.invariant.rows c.pass_out.ensures.ready
