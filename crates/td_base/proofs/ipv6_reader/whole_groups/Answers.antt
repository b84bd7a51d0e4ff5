use Rattle.td_base.proofs.Words.{IfErr-weaker, err_from_is_err_and}
use Rattle.td_base.proofs.GroupLemmas.{behind_colon}
use Rattle.td_base.proofs.WholeLemmas.{whole_leading, whole_no_group, whole_halts}
use Rattle.td_base.proofs.ipv6_reader.whole_groups.Goals as goal

pub returns-then-begins_with_colon-clause-halts : goal.returns-then-begins_with_colon-clause-halts
returns-then-begins_with_colon-clause-halts c =
    IfErr-weaker c.second_colon.result _ _ (λ left h. whole_leading c.args.text.now _ left (behind_colon c.args.text.now c.if-begins_with_colon.ensures) h) c.second_colon.ensures.halts

pub returns-in_err-number-clause-halts : goal.returns-in_err-number-clause-halts
returns-in_err-number-clause-halts c =
    let p = err_from_is_err_and c.from_residual.result c.from_residual.ensures.1 in
    rw (p.1, p.2) (whole_no_group c.args.text.now _ c.if-begins_with_colon.ensures c.in_err-number.ensures.none)

pub returns-clause-halts : goal.returns-clause-halts
returns-clause-halts c =
    IfErr-weaker c.after_head.result _ _ (λ left h. whole_halts c.args.text.now _ _ left c.if-begins_with_colon.ensures c.in_ok-number.ensures.found h) c.after_head.ensures.halts
