use Rattle.td_chain.proofs.Words.{AreBefore, IfSome, List, NatEntry, Ok, Option, Out, ap, behind_of, crossing, drop, is_nat, map, nats_from, ne_eqb, node_at, out_of, outer_in, outs_at, passing, refl, subst, sym, take_rest, true, ℕ, ◌++◌, ◌∙◌, ◌∷◌, ◌≡◌}
use Rattle.td_chain.proofs.ThereLemmas.{nat_there}
use Rattle.td_chain.proofs.PassLemmas.{way_is}
use Rattle.td_chain.proofs.LeaveLemmas.{Coming, before_next, chain_rises, lets_out_here, lets_out_there, none_of_other}
use Rattle.td_chain.proofs.leave.+let_out_on.Goals as goal

pub leave-requires-clause-there : goal.leave-requires-clause-there
leave-requires-clause-there g c = nat_there c.args.all.topology.now c.args.all.nats.now c.in-Some.number c.requires.rows
    (subst (λ (o : Option ℕ). IfSome o (λ k. is_nat (node_at c.args.all.topology.now k) ≡ true)) c.in-Some.is c.requires.there)

pub returns-then-number-at-clause-outs : goal.returns-then-number-at-clause-outs
returns-then-number-at-clause-outs g c = λ h passed stand before.
    let t = c.args.all.topology.now in
    let chain = map behind_of c.args.all.chain.now in
    let k = c.in-Some.number in
    let ep = c.in-Ok.external in
    let coming : Coming = record { t = t; h = h; m = c.args.leaving.now.0; dst = c.args.leaving.dst; from = c.args.from; passed = passed; k = k } in
    let before_k : AreBefore passed k = subst (λ (o : Option ℕ). IfSome o (AreBefore passed)) c.in-Some.is before in
    let rest = map behind_of (drop 1 c.args.at_most.now) in
    let way = way_is chain c.args.at_most.now (drop 1 c.args.at_most.now) c.args.next (outer_in chain k) k c.in-Some.is c.in-len1-up.len_at_least refl refl in
    let so = sym c.in-Ok.is ∙ c.leave.ensures t h stand in
    ap (λ (ks : List ℕ). outs_at c.args.at (crossing t h c.args.leaving.now.0 c.args.leaving.dst ks c.args.from passed).passed) way
    ∙ subst (λ (j : ℕ). outs_at j (crossing t h c.args.leaving.now.0 c.args.leaving.dst (k ∷ nats_from chain rest (outer_in chain k)) c.args.from passed).passed
    ≡ Out (passing k c.args.leaving.now.0 c.args.from c.args.leaving.dst ep.port).datagram ∷ outs_at j passed) c.if-number-at.true
    (lets_out_here coming chain rest (chain_rises t chain c.requires.rules) before_k ep so)

pub returns-clause-outs : goal.returns-clause-outs
returns-clause-outs g c = λ h passed stand before.
    let t = c.args.all.topology.now in
    let chain = map behind_of c.args.all.chain.now in
    let k = c.in-Some.number in
    let ep = c.in-Ok.external in
    let coming : Coming = record { t = t; h = h; m = c.args.leaving.now.0; dst = c.args.leaving.dst; from = c.args.from; passed = passed; k = k } in
    let before_k : AreBefore passed k = subst (λ (o : Option ℕ). IfSome o (AreBefore passed)) c.in-Some.is before in
    let way = way_is chain c.args.at_most.now _ c.args.next c.outside-next.result k c.in-Some.is c.in-len1-up.len_at_least (take_rest c.args.at_most.now 1) c.outside-next.ensures.value in
    let so = sym c.in-Ok.is ∙ c.leave.ensures t h stand in
    let other = ne_eqb k c.args.at c.if-number-at.false in
    let next = before_next chain (chain_rises t chain c.requires.rules) k c.args.leaving.now.0 c.args.from c.args.leaving.dst ep.port passed before_k in
    ap (λ (ks : List ℕ). outs_at c.args.at (crossing t h c.args.leaving.now.0 c.args.leaving.dst ks c.args.from passed).passed) way
    ∙ lets_out_there coming chain _ c.outside-next.result c.args.at before_k ep so other
    ∙ c.let_out_on.ensures.outs h (passing k c.args.leaving.now.0 c.args.from c.args.leaving.dst ep.port ∷ passed) stand
    (subst (λ (o : Option ℕ). IfSome o (AreBefore (passing k c.args.leaving.now.0 c.args.from c.args.leaving.dst ep.port ∷ passed))) (sym c.outside-next.ensures.value) next)
    ∙ ap (λ (es : List NatEntry). out_of c.let_out_on.result ++ es) (none_of_other coming c.args.at ep other)
