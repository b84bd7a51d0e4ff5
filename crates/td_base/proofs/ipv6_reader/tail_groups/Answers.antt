use Rattle.td_base.proofs.Words.{IfErr-weaker, err_from_is_err_and, length, rules, ◌≤◌}
use Rattle.td_base.proofs.GroupLemmas.{tail_begins_badly, tail_goes_on}
use Rattle.td_base.proofs.ipv6_reader.tail_groups.Goals as goal

pub returns-in_err-number-clause-halts : goal.returns-in_err-number-clause-halts
returns-in_err-number-clause-halts c =
    let p = err_from_is_err_and c.from_residual.result c.from_residual.ensures.1 in
    let some : 1 ≤ length c.args.text.now = search rules in
    rw (p.1, p.2) (tail_begins_badly _ c.args.text.now _ c.if-most-eq0.false some c.in_err-number.ensures.none)

pub returns-clause-halts : goal.returns-clause-halts
returns-clause-halts c =
    IfErr-weaker c.after_tail.result _ _ (λ left h. tail_goes_on _ c.args.text.now _ _ left c.if-most-eq0.false c.in_ok-number.ensures.found h) c.after_tail.ensures.halts
