use Rattle.td_chain.proofs.Words.{NatState, NatsStand, None, Option, Restart, Some, ap, arith, length, nat_tests, refl, same_Some, set, set-get_or, slice_get, slice_get_past, slice_get_read, subst, sym, with_nat_entry, ℕ, ◌<◌, ◌∙◌, ◌≡◌, ◌≤◌}
use Rattle.td_chain.proofs.ThereLemmas.{none_there}
use Rattle.td_chain.proofs.PassLemmas.{rows_later, ready_later, stand_with, none_with}
use Rattle.td_chain.proofs.forgetting.restart_at.Goals as goal

pub returns-then-place-nats-clause-stands : goal.returns-then-place-nats-clause-stands
returns-then-place-nats-clause-stands c = λ t h stand.
    let items = c.args.nats.now in
    let k = c.args.number in
    let test = c.if-place-nats.true in
    let from = c.from-place.ensures in
    let past : length items ≤ k = grind (arith, nat_tests) in
    none_with t items k h Restart (λ nat at. none_there (Some nat) (sym (slice_get_past items k past) ∙ at)) stand

pub returns-in_default-clause-stands : goal.returns-in_default-clause-stands
returns-in_default-clause-stands c = λ t h stand.
    let items = c.args.nats.now in
    let k = c.args.number in
    let test = c.if-place-nats.false in
    let within : c.from-place.result < length items = grind (arith, nat_tests) in
    let read = slice_get_read items (length items) c.from-place.result c.index-nats-place.result refl within c.index-nats-place.is in
    let there : slice_get items k ≡ Some None = ap (slice_get items) (sym c.from-place.ensures) ∙ read
    ∙ ap (λ (o : Option NatState). Some o) (c.index-nats-place.is ∙ c.in_default.is) in
    subst (λ xs. NatsStand t xs (with_nat_entry k Restart h)) (sym (set-get_or items c.from-place.result c.index-nats-place.result))
    (none_with t items k h Restart (λ nat at. none_there nat (same_Some None (Some nat) (sym there ∙ at))) stand)

-- the NAT stands in its place
nat_here : (c : goal.After-restart) → slice_get c.args.nats.now c.from-place.result ≡ Some (Some c.in-Some.nat)
nat_here c =
    let items = c.args.nats.now in
    let test = c.if-place-nats.false in
    let within : c.from-place.result < length items = grind (arith, nat_tests) in
    slice_get_read items (length items) c.from-place.result c.index-nats-place.result refl within c.index-nats-place.is
    ∙ ap (λ (o : Option NatState). Some o) (c.index-nats-place.is ∙ c.in-Some.is)

pub returns-clause-stands : goal.returns-clause-stands
returns-clause-stands c = λ t h stand.
    let items = c.args.nats.now in
    let k = c.from-place.result in
    let new = c.restart.new.self in
    subst (λ (n : ℕ). NatsStand t (set items k (Some new)) (with_nat_entry n Restart h)) c.from-place.ensures
    (stand_with items k c.in-Some.nat new (nat_here c) c.restart.ensures.settings t h Restart stand c.restart.ensures.stands)

pub returns-clause-ready : goal.returns-clause-ready
returns-clause-ready c = λ m ready.
    let early = ready c.from-place.result c.in-Some.nat (nat_here c) in
    let same = c.restart.ensures.moment in
    ready_later c.args.nats.now c.from-place.result c.in-Some.nat c.restart.new.self (nat_here c) c.restart.ensures.settings m ready (omega (arith, early, same))

pub returns-clause-rows : goal.returns-clause-rows
returns-clause-rows c = rows_later c.args.nats.now c.from-place.result c.in-Some.nat c.restart.new.self (nat_here c) c.restart.ensures.settings
