use Rattle.world.proofs.Words.{item_lent, length, on_err_always, rules, ◌≡◌}
use Rattle.world.proofs.Placed.{items-in_front, pushed, pushed-inside}
use Rattle.world.proofs.entries.Entries.push.Goals as goal

pub returns-in_err-push-clause-err : goal.returns-in_err-push-clause-err
returns-in_err-push-clause-err c =
    let all = c.self.inside.bytes.items in
    let es = c.self.inside.list.items in
    on_err_always c.from_residual-in_err-push.result (rw (← c.self.view_is, c.in_err-push.ensures.items, c.in_ok-extend_from_slice.ensures.items) (items-in_front all c.bytes.result.now es c.self.invariant))

pub invariant_of-self-2 : goal.invariant_of-self-2
invariant_of-self-2 c =
    let all = c.self.inside.bytes.items in
    let es = c.self.inside.list.items in
    let at : c.len-at.result ≡ length all = search rules in
    rw (c.in_ok-push.ensures.items, c.in_ok-extend_from_slice.ensures.items, c.kept_entry.ensures, c.bytes.ensures, at)
    (pushed-inside all es (item_lent c.args.entry) c.self.invariant)

pub returns-clause-ok : goal.returns-clause-ok
returns-clause-ok c =
    let all = c.self.inside.bytes.items in
    let es = c.self.inside.list.items in
    let at : c.len-at.result ≡ length all = search rules in
    rw (← c.self.view_is, c.in_ok-push.ensures.items, c.in_ok-extend_from_slice.ensures.items, c.kept_entry.ensures, c.bytes.ensures, at)
    (pushed all es (item_lent c.args.entry) c.self.invariant)
