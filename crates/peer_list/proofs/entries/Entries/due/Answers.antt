use Rattle.peer_list.proofs.Words.{Some, ap, arith, length, sym, ◌<◌, ◌∙◌, ◌≤◌}
use Rattle.peer_list.proofs.TurnLemmas.{first_at, no_due, waits_both, waits_there}
use Rattle.peer_list.proofs.entries.Entries.due.Goals as goal

pub returns-then-is_listed : goal.returns-then-is_listed
returns-then-is_listed c =
    let same = ap length c.deref-key-items.ensures.value in
    let test = c.loop-key-test.true in
    let within : c.loop-key.key-index < length c.args.self.now.order.items = omega (arith, same, test) in
    let waits =
    waits_there c.args.self.now c.args.now.0 c.requires.whole c.deref-key-items.result.now c.loop-key.key-index _ c.index-listing.result.now
    c.deref-key-items.ensures.value within c.index-listing.ensures in
    ap (λ m. Some (record { 0 = m }, c.index-listing.result.now.who)) c.due.ensures
    ∙ first_at c.args.self.now c.args.now.0 c.requires.whole c.deref-key-items.result.now c.loop-key.key-index _ c.index-listing.result.now c.deref-key-items.ensures.value within c.index-listing.ensures c.loop-key.invariant
    (waits_both c.args.now.0 c.index-listing.result.now (sym c.if-is_listed.ensures) waits)

pub returns : goal.returns
returns c =
    let same = ap length c.deref-key-items.ensures.value in
    let test = c.loop-key-test.false in
    let past : length c.args.self.now.order.items ≤ c.loop-key.key-index = omega (arith, same, test) in
    no_due c.args.self.now c.args.now.0 c.requires.whole c.loop-key.key-index past c.loop-key.invariant
