use Rattle.td_chain.proofs.Words.{Crosses, Option, behind_of, err_from_is_err_and, map, nats_from, outer_in, subst, ℕ, ◌∷◌}
use Rattle.td_chain.proofs.PassLemmas.{ends_here, then_crosses}
use Rattle.td_chain.proofs.passing.pass_out.Goals as goal

pub returns-in_err-external-clause-crosses : goal.returns-in_err-external-clause-crosses
returns-in_err-external-clause-crosses c =
    let p = err_from_is_err_and c.from_residual.result c.from_residual.ensures.1 in
    let chain = map behind_of c.args.chain.now in
    let k = c.args.number in
    let why = c.in_err-external.field-0.0 in
    rw (p.1, p.2) (λ t h passed stand.
    ends_here t h c.args.leaving.now.0 c.args.from c.args.leaving.dst passed k c.pass.new.nats (nats_from chain chain (outer_in chain k)) why (c.in_err-external.ensures.passes t h passed stand))

pub returns-clause-crosses : goal.returns-clause-crosses
returns-clause-crosses c = λ t h passed stand.
    let chain = map behind_of c.args.chain.now in
    let k = c.args.number in
    let p = c.in_ok-external.ensures.passes t h passed stand in
    subst (λ (o : Option ℕ). Crosses t h c.args.leaving.now.0 c.args.from c.args.leaving.dst passed (k ∷ nats_from chain chain o) c.pass_on.result c.pass_on.new.nats) c.outer_in-outside.ensures
    (then_crosses t h c.args.leaving.now.0 c.args.from c.args.leaving.dst passed k c.pass.new.nats c.in_ok-external.external p (nats_from chain chain c.outer_in-outside.result) c.pass_on.new.nats c.pass_on.result
    (c.pass_on.ensures.crosses t h _ p.stands))
