use Rattle.td_chain.proofs.Words.{AreBefore, Crossing, Err, IfSome, List, Ok, Option, [], ap, behind_of, crossing, err_from_is_err_and, map, nats_from, outer_in, passing, subst, sym, ℕ, ◌∙◌, ◌∷◌}
use Rattle.td_chain.proofs.ThereLemmas.{nat_there}
use Rattle.td_chain.proofs.LeaveLemmas.{Coming, before_next, chain_rises, crosses_so, none_before}
use Rattle.td_chain.proofs.leave.leave_out.Goals as goal

pub leave-requires-clause-there : goal.leave-requires-clause-there
leave-requires-clause-there c = nat_there c.args.all.topology.now c.args.all.nats.now c.args.sending.nat c.requires.rows c.requires.there

pub returns-in_err-external : goal.returns-in_err-external
returns-in_err-external c =
    let p = err_from_is_err_and c.from_residual.result c.from_residual.ensures.1 in
    let t = c.args.all.topology.now in
    let chain = map behind_of c.args.all.chain.now in
    let s = c.args.sending in
    let why = c.in_err-external.field-0.0 in
    rw (p.1, p.2) (λ h stand.
    let coming : Coming = record { t = t; h = h; m = s.now.0; dst = s.dst; from = s.inside; passed = []; k = s.nat } in
    sym (ap (λ (x : Crossing). x.leaves) (crosses_so coming (none_before s.nat) (nats_from chain chain (outer_in chain s.nat)) (Err why) (c.in_err-external.ensures t h stand))))

pub returns : goal.returns
returns c = λ h stand.
    let t = c.args.all.topology.now in
    let chain = map behind_of c.args.all.chain.now in
    let s = c.args.sending in
    let ep = c.in_ok-external.external in
    let coming : Coming = record { t = t; h = h; m = s.now.0; dst = s.dst; from = s.inside; passed = []; k = s.nat } in
    let next = before_next chain (chain_rises t chain c.requires.rules) s.nat s.now.0 s.inside s.dst ep.port [] (none_before s.nat) in
    c.leave_on.ensures h (passing s.nat s.now.0 s.inside s.dst ep.port ∷ []) stand
    (subst (λ (o : Option ℕ). IfSome o (AreBefore (passing s.nat s.now.0 s.inside s.dst ep.port ∷ []))) (sym c.outside-next.ensures.value) next)
    ∙ ap (λ (o : Option ℕ). (crossing t h s.now.0 s.dst (nats_from chain chain o) ep (passing s.nat s.now.0 s.inside s.dst ep.port ∷ [])).leaves) c.outside-next.ensures.value
    ∙ sym (ap (λ (x : Crossing). x.leaves) (crosses_so coming (none_before s.nat) (nats_from chain chain (outer_in chain s.nat)) (Ok ep) (c.in_ok-external.ensures t h stand)))
