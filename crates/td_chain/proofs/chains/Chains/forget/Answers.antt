use Rattle.td_chain.proofs.Words.{ChainsState, Forget, List, NatIsThere, NatState, NatsReady, NatsStand, Option, ap, behind_of, is_nat, map, node_at, set_ups, subst, sym, true, with_nat_entry, ◌∙◌, ◌≡◌}
use Rattle.td_chain.proofs.ThereLemmas.{nat_there, written, kept_later}
use Rattle.td_chain.proofs.chains.Chains.forget.Goals as goal

pub forget_at-requires : goal.forget_at-requires
forget_at-requires c =
    let t = c.self.inside.topology.now in
    let is : is_nat (node_at t c.args.nat) ≡ true = subst (λ (x : ChainsState). is_nat (node_at x.topology c.args.nat) ≡ true) (sym c.self.view_is) c.requires.nat in
    record { there = subst (λ (list : List (Option NatState)). NatIsThere list c.args.nat) (sym c.deref_mut.ensures.value) (nat_there t c.self.inside.nats.items c.args.nat c.self.invariant.rows is) }

pub returns-clause-stands : goal.returns-clause-stands
returns-clause-stands c = rw (← c.self.view_is) (λ h stand.
    let same : set_ups c.forget_at.new.nats ≡ set_ups c.self.inside.nats.items = c.forget_at.ensures.rows ∙ ap (λ (x : List (Option NatState)). set_ups x) c.deref_mut.ensures.value in
    let t = c.self.inside.topology.now in
    let items = c.self.inside.nats.items in
    subst (λ (x : List (Option NatState)). NatsStand t x (with_nat_entry c.args.nat (Forget c.args.inside) h)) (sym (written items c.forget_at.new.nats c.self.inside.nats.len c.self.inside.nats.ok.0 same))
    (c.forget_at.ensures.stands t h (subst (λ (x : List (Option NatState)). NatsStand t x h) (sym c.deref_mut.ensures.value) stand)))

pub invariant_of-self : goal.invariant_of-self
invariant_of-self c =
    let same : set_ups c.forget_at.new.nats ≡ set_ups c.self.inside.nats.items = c.forget_at.ensures.rows ∙ ap (λ (x : List (Option NatState)). set_ups x) c.deref_mut.ensures.value in
    let m = c.self.inside.moment.0 in
    kept_later c.self.inside.topology.now (map behind_of c.self.inside.chain.items) m c.self.inside.nats.items c.forget_at.new.nats c.self.inside.nats.len c.self.inside.nats.ok.0 same
    c.self.invariant.rules c.self.invariant.rows (c.forget_at.ensures.ready m (subst (λ (x : List (Option NatState)). NatsReady m x) (sym c.deref_mut.ensures.value) c.self.invariant.ready))
