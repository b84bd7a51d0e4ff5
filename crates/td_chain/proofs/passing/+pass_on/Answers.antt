use Rattle.td_chain.proofs.Words.{Crosses, Err, List, behind_of, drop, err_from_is_err_and, map, nats_from, outer_in, refl, subst, sym, take_rest, ℕ}
use Rattle.td_chain.proofs.PassLemmas.{ends_here, then_crosses, way_is}
use Rattle.td_chain.proofs.passing.+pass_on.Goals as goal

pub returns-in_err-external-clause-crosses : goal.returns-in_err-external-clause-crosses
returns-in_err-external-clause-crosses g c =
    let p = err_from_is_err_and c.from_residual.result c.from_residual.ensures.1 in
    let chain = map behind_of c.args.chain.now in
    let list = c.args.at_most.now in
    let k = c.in-Some.number in
    let m = c.args.leaving.now.0 in
    let why = c.in_err-external.field-0.0 in
    rw (p.1, p.2) (λ t h passed stand.
    subst (λ (way : List ℕ). Crosses t h m c.args.from c.args.leaving.dst passed way (Err why) c.pass.new.nats) (sym (way_is chain list (drop 1 list) c.args.next (outer_in chain k) k c.in-Some.is c.in-len1-up.len_at_least refl refl))
    (ends_here t h m c.args.from c.args.leaving.dst passed k c.pass.new.nats (nats_from chain (map behind_of (drop 1 list)) (outer_in chain k)) why (c.in_err-external.ensures.passes t h passed stand)))

pub returns-clause-crosses : goal.returns-clause-crosses
returns-clause-crosses g c = λ t h passed stand.
    let chain = map behind_of c.args.chain.now in
    let k = c.in-Some.number in
    let m = c.args.leaving.now.0 in
    let p = c.in_ok-external.ensures.passes t h passed stand in
    let way = way_is chain c.args.at_most.now _ c.args.next c.outer_in.result k c.in-Some.is c.in-len1-up.len_at_least (take_rest c.args.at_most.now 1) c.outer_in.ensures in
    subst (λ (way : List ℕ). Crosses t h m c.args.from c.args.leaving.dst passed way c.pass_on.result c.pass_on.new.nats) (sym way)
    (then_crosses t h m c.args.from c.args.leaving.dst passed k c.pass.new.nats c.in_ok-external.external p _ c.pass_on.new.nats c.pass_on.result (c.pass_on.ensures.crosses t h _ p.stands))
