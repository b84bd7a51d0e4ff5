use Rattle.td_chain.proofs.Words.{IfErr-weaker, err_from_is_err_and, on_ok_weaker, take_rest}
use Rattle.td_chain.proofs.PairLemmas.{one_read, one_not_read, first_not_read, then_read, then_not_read}
use Rattle.td_chain.proofs.chain_text.+add_pairs.Goals as goal

pub returns-then-len-text-clause-found : goal.returns-then-len-text-clause-found
returns-then-len-text-clause-found t c =
    on_ok_weaker c.add_named.result (λ h. one_read c.args.topology.now c.args.text.now _ c.len_before-len.ensures.value _ c.if-len-text.true _ h) c.add_named.ensures.added

pub returns-then-len-text-clause-none : goal.returns-then-len-text-clause-none
returns-then-len-text-clause-none t c =
    IfErr-weaker c.add_named.result _ _ (λ why h chain. one_not_read c.args.topology.now c.args.text.now _ c.len_before-len.ensures.value _ c.if-len-text.true (h chain)) c.add_named.ensures.none

pub returns-in_err-add_named-clause-none : goal.returns-in_err-add_named-clause-none
returns-in_err-add_named-clause-none t c =
    let p = err_from_is_err_and c.from_residual.result c.from_residual.ensures.1 in
    rw (p.1, p.2) (λ chain. first_not_read c.args.topology.now c.args.text.now _ c.len_before-len.ensures.value _ c.if-len-text.false (c.in_err-add_named.ensures.none chain))

pub returns-clause-found : goal.returns-clause-found
returns-clause-found t c =
    on_ok_weaker c.add_pairs.result (λ h. then_read c.args.topology.now c.args.text.now _ c.len_before-len.ensures.value _ c.if-len-text.false _ (take_rest c.args.text.now _) _ _ c.in_ok-add_named.ensures.added h) c.add_pairs.ensures.found

pub returns-clause-none : goal.returns-clause-none
returns-clause-none t c =
    IfErr-weaker c.add_pairs.result _ _ (λ why h chain. then_not_read c.args.topology.now c.args.text.now _ c.len_before-len.ensures.value _
    c.if-len-text.false _ (take_rest c.args.text.now _) _ c.in_ok-add_named.ensures.added (h chain)) c.add_pairs.ensures.none
