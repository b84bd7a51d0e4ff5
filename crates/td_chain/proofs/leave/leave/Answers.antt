use Rattle.td_chain.proofs.Words.{NatSettings, NatState, Option, Some, ap, leaves_from, length, refl, slice_get, slice_get_read, slice_get_within, sym, ◌<◌, ◌∙◌, ◌≡◌}
use Rattle.td_chain.proofs.PassLemmas.{is_there}
use Rattle.td_chain.proofs.leave.leave.Goals as goal

pub returns : goal.returns
returns c = λ t h stand.
    let items = c.args.nats.now in
    let k = c.args.number in
    let there = is_there items k c.requires.there in
    let within : c.from.result < length items = rw (c.from.ensures) (slice_get_within items k (Some there.0) there.1) in
    let here : slice_get items k ≡ Some (Some c.in-Some.nat) = ap (slice_get items) (sym c.from.ensures) ∙ slice_get_read items (length items) c.from.result c.index-nats-from.result refl within c.index-nats-from.is
    ∙ ap (λ (o : Option NatState). Some o) c.in-Some.is in
    c.leaves.ensures.answer (h k) (stand.stands k c.in-Some.nat here)
    ∙ ap (λ (s : NatSettings). leaves_from s (h k) c.args.leaving.now.0 c.args.from c.args.leaving.dst) (stand.set_up k c.in-Some.nat here)
