use Rattle.td_base.proofs.Words.{IfErr-weaker}
use Rattle.td_base.proofs.GroupLemmas.{behind_colon}
use Rattle.td_base.proofs.WholeLemmas.{behind_second_colon, no_second_colon}
use Rattle.td_base.proofs.ipv6_reader.second_colon.Goals as goal

pub returns-then-begins_with_colon-clause-halts : goal.returns-then-begins_with_colon-clause-halts
returns-then-begins_with_colon-clause-halts c =
    IfErr-weaker c.elided.result _ _ (λ left h. behind_second_colon _ c.args.text.now _ left (behind_colon c.args.text.now c.if-begins_with_colon.ensures) h) c.elided.ensures.halts

pub returns-clause-halts : goal.returns-clause-halts
returns-clause-halts c = no_second_colon _ c.args.text.now c.if-begins_with_colon.ensures
