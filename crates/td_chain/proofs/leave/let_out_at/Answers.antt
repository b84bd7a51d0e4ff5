use Rattle.td_chain.proofs.Words.{AreBefore, IfSome, List, NatEntry, Ok, Option, Out, [], ap, append-nil, behind_of, crossing, map, nats_from, ne_eqb, out_of, outer_in, outs_at, passing, subst, sym, ℕ, ◌++◌, ◌∙◌, ◌∷◌, ◌≡◌}
use Rattle.td_chain.proofs.ThereLemmas.{nat_there}
use Rattle.td_chain.proofs.LeaveLemmas.{Coming, before_next, chain_rises, lets_out_here, lets_out_there, none_before, none_of_other}
use Rattle.td_chain.proofs.leave.let_out_at.Goals as goal

pub leave-requires-clause-there : goal.leave-requires-clause-there
leave-requires-clause-there c = nat_there c.args.all.topology.now c.args.all.nats.now c.args.sending.nat c.requires.rows c.requires.there

pub returns-then-sending-at-clause-outs : goal.returns-then-sending-at-clause-outs
returns-then-sending-at-clause-outs c = λ h stand.
    let t = c.args.all.topology.now in
    let chain = map behind_of c.args.all.chain.now in
    let s = c.args.sending in
    let ep = c.in-Ok.external in
    let coming : Coming = record { t = t; h = h; m = s.now.0; dst = s.dst; from = s.inside; passed = []; k = s.nat } in
    subst (λ (j : ℕ). outs_at j (crossing t h s.now.0 s.dst (s.nat ∷ nats_from chain chain (outer_in chain s.nat)) s.inside []).passed
    ≡ Out (passing s.nat s.now.0 s.inside s.dst ep.port).datagram ∷ outs_at j []) c.if-sending-at.true
    (lets_out_here coming chain chain (chain_rises t chain c.requires.rules) (none_before s.nat) ep (sym c.in-Ok.is ∙ c.leave.ensures t h stand))

pub returns-clause-outs : goal.returns-clause-outs
returns-clause-outs c = λ h stand.
    let t = c.args.all.topology.now in
    let chain = map behind_of c.args.all.chain.now in
    let s = c.args.sending in
    let ep = c.in-Ok.external in
    let coming : Coming = record { t = t; h = h; m = s.now.0; dst = s.dst; from = s.inside; passed = []; k = s.nat } in
    let other = ne_eqb s.nat c.args.at c.if-sending-at.false in
    let next = before_next chain (chain_rises t chain c.requires.rules) s.nat s.now.0 s.inside s.dst ep.port [] (none_before s.nat) in
    ap (λ (o : Option ℕ). outs_at c.args.at (crossing t h s.now.0 s.dst (s.nat ∷ nats_from chain chain o) s.inside []).passed) (sym c.outside-next.ensures.value)
    ∙ lets_out_there coming chain chain c.outside-next.result c.args.at (none_before s.nat) ep (sym c.in-Ok.is ∙ c.leave.ensures t h stand) other
    ∙ c.let_out_on.ensures.outs h (passing s.nat s.now.0 s.inside s.dst ep.port ∷ []) stand
    (subst (λ (o : Option ℕ). IfSome o (AreBefore (passing s.nat s.now.0 s.inside s.dst ep.port ∷ []))) (sym c.outside-next.ensures.value) next)
    ∙ ap (λ (es : List NatEntry). out_of c.let_out_on.result ++ es) (none_of_other coming c.args.at ep other)
    ∙ append-nil (out_of c.let_out_on.result)
