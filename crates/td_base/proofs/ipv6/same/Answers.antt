use Rattle.td_base.proofs.Words.{arith, ne_eqb, sym, ◌∙◌}
use Rattle.td_base.proofs.NumberLemmas.{by_first_half, by_last_half}
use Rattle.td_base.proofs.ipv6.same.Goals as goal

pub returns-then-a_first-b_first : goal.returns-then-a_first-b_first
returns-then-a_first-b_first c =
    let a = c.halves-a_first.ensures in
    let b = c.halves-b_first.ensures in
    by_last_half c.args.a c.args.b _ _ _ (record { is = (omega arith, a.bytes); first_is = a.first; last_is = a.last }) (record { is = (omega arith, b.bytes); first_is = c.if-a_first-b_first.true ∙ b.first; last_is = b.last })

pub returns-else-a_first-b_first : goal.returns-else-a_first-b_first
returns-else-a_first-b_first c =
    let a = c.halves-a_first.ensures in
    let b = c.halves-b_first.ensures in
    ne_eqb _ _ c.if-a_first-b_first.false ∙ sym (by_first_half c.args.a c.args.b (λ same. c.if-a_first-b_first.false (a.first ∙ same ∙ sym b.first)))
