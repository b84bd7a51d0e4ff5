use Rattle.td_chain.proofs.Words.{List, NatState, NatsReady, NatsStand, Option, Restart, ap, behind_of, map, set_ups, subst, sym, with_nat_entry, ◌∙◌, ◌≡◌}
use Rattle.td_chain.proofs.ThereLemmas.{written, kept_later}
use Rattle.td_chain.proofs.chains.Chains.restart.Goals as goal

pub returns-clause-stands : goal.returns-clause-stands
returns-clause-stands c = rw (← c.self.view_is) (λ h stand.
    let same : set_ups c.restart_at.new.nats ≡ set_ups c.self.inside.nats.items = c.restart_at.ensures.rows ∙ ap (λ (x : List (Option NatState)). set_ups x) c.deref_mut.ensures.value in
    let t = c.self.inside.topology.now in
    let items = c.self.inside.nats.items in
    subst (λ (x : List (Option NatState)). NatsStand t x (with_nat_entry c.args.node Restart h)) (sym (written items c.restart_at.new.nats c.self.inside.nats.len c.self.inside.nats.ok.0 same))
    (c.restart_at.ensures.stands t h (subst (λ (x : List (Option NatState)). NatsStand t x h) (sym c.deref_mut.ensures.value) stand)))

pub invariant_of-self : goal.invariant_of-self
invariant_of-self c =
    let same : set_ups c.restart_at.new.nats ≡ set_ups c.self.inside.nats.items = c.restart_at.ensures.rows ∙ ap (λ (x : List (Option NatState)). set_ups x) c.deref_mut.ensures.value in
    let m = c.self.inside.moment.0 in
    kept_later c.self.inside.topology.now (map behind_of c.self.inside.chain.items) m c.self.inside.nats.items c.restart_at.new.nats c.self.inside.nats.len c.self.inside.nats.ok.0 same
    c.self.invariant.rules c.self.invariant.rows (c.restart_at.ensures.ready m (subst (λ (x : List (Option NatState)). NatsReady m x) (sym c.deref_mut.ensures.value) c.self.invariant.ready))
