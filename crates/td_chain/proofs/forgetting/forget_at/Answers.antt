use Rattle.td_chain.proofs.Words.{Forget, NatState, NatsStand, Option, Some, ap, arith, length, refl, set, slice_get, slice_get_read, slice_get_within, subst, with_nat_entry, ℕ, ◌<◌, ◌∙◌, ◌≡◌}
use Rattle.td_chain.proofs.PassLemmas.{is_there, rows_later, ready_later, stand_with}
use Rattle.td_chain.proofs.forgetting.forget_at.Goals as goal

-- the NAT stands in its place
here : (c : goal.After-forget) → slice_get c.args.nats.now c.from.result ≡ Some (Some c.in-Some.nat)
here c =
    let items = c.args.nats.now in
    let there = is_there items c.args.number c.requires.there in
    let within : c.from.result < length items = rw (c.from.ensures) (slice_get_within items c.args.number (Some there.0) there.1) in
    slice_get_read items (length items) c.from.result c.index-nats-from.result refl within c.index-nats-from.is
    ∙ ap (λ (o : Option NatState). Some o) (c.index-nats-from.is ∙ c.in-Some.is)

pub returns-clause-stands : goal.returns-clause-stands
returns-clause-stands c = λ t h stand.
    let items = c.args.nats.now in
    let k = c.from.result in
    let new = c.forget.new.self in
    subst (λ (n : ℕ). NatsStand t (set items k (Some new)) (with_nat_entry n (Forget c.args.inside) h)) c.from.ensures
    (stand_with items k c.in-Some.nat new (here c) c.forget.ensures.settings t h (Forget c.args.inside) stand c.forget.ensures.stands)

pub returns-clause-ready : goal.returns-clause-ready
returns-clause-ready c = λ m ready.
    let early = ready c.from.result c.in-Some.nat (here c) in
    let same = c.forget.ensures.moment in
    ready_later c.args.nats.now c.from.result c.in-Some.nat c.forget.new.self (here c) c.forget.ensures.settings m ready (omega (arith, early, same))

pub returns-clause-rows : goal.returns-clause-rows
returns-clause-rows c = rows_later c.args.nats.now c.from.result c.in-Some.nat c.forget.new.self (here c) c.forget.ensures.settings
