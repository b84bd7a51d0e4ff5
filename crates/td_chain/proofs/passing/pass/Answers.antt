use Rattle.td_chain.proofs.Words.{NatState, Option, Passes, Some, ap, arith, length, refl, set, slice_get, slice_get_read, slice_get_within, subst, ℕ, ◌<◌, ◌∙◌, ◌≡◌}
use Rattle.td_chain.proofs.PassLemmas.{is_there, rows_later, ready_later, passes}
use Rattle.td_chain.proofs.passing.pass.Goals as goal

-- the NAT stands in its place
here : (c : goal.After-outward) → slice_get c.args.nats.now c.from.result ≡ Some (Some c.in-Some.nat)
here c =
    let items = c.args.nats.now in
    let there = is_there items c.args.number c.requires.there in
    let within : c.from.result < length items = rw (c.from.ensures) (slice_get_within items c.args.number (Some there.0) there.1) in
    slice_get_read items (length items) c.from.result c.index-nats-from.result refl within c.index-nats-from.is
    ∙ ap (λ (o : Option NatState). Some o) (c.index-nats-from.is ∙ c.in-Some.is)

pub returns-clause-passes : goal.returns-clause-passes
returns-clause-passes c = λ t h passed stand.
    let items = c.args.nats.now in
    let k = c.from.result in
    let new = c.outward.new.self in
    let e = c.outward.ensures in
    subst (λ (n : ℕ). Passes t h c.args.leaving.now.0 c.args.from c.args.leaving.dst passed n c.outward.result (set items k (Some new))) c.from.ensures
    (passes items k c.in-Some.nat new (here c) e.settings (record { t = t; h = h; m = c.args.leaving.now.0; from = c.args.from; dst = c.args.leaving.dst; passed = passed; stand = stand }) c.outward.result e.answer e.stands e.refused)

pub returns-clause-ready : goal.returns-clause-ready
returns-clause-ready c =
    let e = c.outward.ensures in
    ready_later c.args.nats.now c.from.result c.in-Some.nat c.outward.new.self (here c) e.settings c.args.leaving.now.0 c.requires.ready (let m = e.moment in omega (arith, m))

pub returns-clause-rows : goal.returns-clause-rows
returns-clause-rows c = rows_later c.args.nats.now c.from.result c.in-Some.nat c.outward.new.self (here c) c.outward.ensures.settings
