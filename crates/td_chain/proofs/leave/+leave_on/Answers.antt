use Rattle.td_chain.proofs.Words.{AreBefore, Crossing, Err, IfSome, List, Ok, Option, ap, behind_of, crossing, drop, err_from_is_err_and, is_nat, map, nats_from, node_at, outer_in, passing, refl, subst, sym, take_rest, true, ℕ, ◌∙◌, ◌∷◌, ◌≡◌}
use Rattle.td_chain.proofs.ThereLemmas.{nat_there}
use Rattle.td_chain.proofs.PassLemmas.{way_is}
use Rattle.td_chain.proofs.LeaveLemmas.{Coming, before_next, chain_rises, crosses_so}
use Rattle.td_chain.proofs.leave.+leave_on.Goals as goal

pub leave-requires-clause-there : goal.leave-requires-clause-there
leave-requires-clause-there g c = nat_there c.args.all.topology.now c.args.all.nats.now c.in-Some.number c.requires.rows
    (subst (λ (o : Option ℕ). IfSome o (λ k. is_nat (node_at c.args.all.topology.now k) ≡ true)) c.in-Some.is c.requires.there)

pub returns-in_err-external : goal.returns-in_err-external
returns-in_err-external g c =
    let p = err_from_is_err_and c.from_residual.result c.from_residual.ensures.1 in
    let t = c.args.all.topology.now in
    let chain = map behind_of c.args.all.chain.now in
    let k = c.in-Some.number in
    let why = c.in_err-external.field-0.0 in
    rw (p.1, p.2) (λ h passed stand before.
    let coming : Coming = record { t = t; h = h; m = c.args.leaving.now.0; dst = c.args.leaving.dst; from = c.args.from; passed = passed; k = k } in
    let before_k : AreBefore passed k = subst (λ (o : Option ℕ). IfSome o (AreBefore passed)) c.in-Some.is before in
    let way = way_is chain c.args.at_most.now (drop 1 c.args.at_most.now) c.args.next (outer_in chain k) k c.in-Some.is c.in-len1-up.len_at_least refl refl in
    sym (ap (λ (ks : List ℕ). (crossing t h c.args.leaving.now.0 c.args.leaving.dst ks c.args.from passed).leaves) way
    ∙ ap (λ (x : Crossing). x.leaves) (crosses_so coming before_k (nats_from chain (map behind_of (drop 1 c.args.at_most.now)) (outer_in chain k)) (Err why) (c.in_err-external.ensures t h stand))))

pub returns : goal.returns
returns g c = λ h passed stand before.
    let t = c.args.all.topology.now in
    let chain = map behind_of c.args.all.chain.now in
    let k = c.in-Some.number in
    let ep = c.in_ok-external.external in
    let coming : Coming = record { t = t; h = h; m = c.args.leaving.now.0; dst = c.args.leaving.dst; from = c.args.from; passed = passed; k = k } in
    let before_k : AreBefore passed k = subst (λ (o : Option ℕ). IfSome o (AreBefore passed)) c.in-Some.is before in
    let way = way_is chain c.args.at_most.now _ c.args.next c.outside-next.result k c.in-Some.is c.in-len1-up.len_at_least (take_rest c.args.at_most.now 1) c.outside-next.ensures.value in
    let next = before_next chain (chain_rises t chain c.requires.rules) k c.args.leaving.now.0 c.args.from c.args.leaving.dst ep.port passed before_k in
    c.leave_on.ensures h (passing k c.args.leaving.now.0 c.args.from c.args.leaving.dst ep.port ∷ passed) stand
    (subst (λ (o : Option ℕ). IfSome o (AreBefore (passing k c.args.leaving.now.0 c.args.from c.args.leaving.dst ep.port ∷ passed))) (sym c.outside-next.ensures.value) next)
    ∙ sym (ap (λ (ks : List ℕ). (crossing t h c.args.leaving.now.0 c.args.leaving.dst ks c.args.from passed).leaves) way
    ∙ ap (λ (x : Crossing). x.leaves) (crosses_so coming before_k _ (Ok ep) (c.in_ok-external.ensures t h stand)))
