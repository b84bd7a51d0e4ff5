use Rattle.td_chain.proofs.Words.{Ip4, Option, ap, behind_of, map, nat_set_up, nats_from, outer_in, slice_get, walk, ℕ, ◌-◌, ◌∙◌}
use Rattle.td_chain.proofs.ThereLemmas.{nat_there}
use Rattle.td_chain.proofs.WalkLemmas.{Walker, goes_on}
use Rattle.td_chain.proofs.walk.walk_out.Goals as goal

pub passed_by-requires-clause-there : goal.passed_by-requires-clause-there
passed_by-requires-clause-there c = nat_there c.args.all.topology.now c.args.all.nats.now c.args.sending.nat c.requires.rows c.requires.there

pub returns : goal.returns
returns c = λ h stand.
    let t = c.args.all.topology.now in
    let chain = map behind_of c.args.all.chain.now in
    let s = c.args.sending in
    let port = c.in-Some.port in
    let x : Walker = record { t = t; h = h; m = s.now.0; dst = s.dst; from = s.inside; k = s.nat } in
    c.walk_on.ensures h stand
    ∙ ap (λ (ip : Ip4). slice_get (walk t h s.now.0 s.dst (nats_from chain chain c.outside-next.result) (record { ip = ip; port = port })) (c.args.place - 1)) c.external_of.ensures
    ∙ ap (λ (o : Option ℕ). slice_get (walk t h s.now.0 s.dst (nats_from chain chain o) (record { ip = (nat_set_up t s.nat).external; port = port })) (c.args.place - 1)) c.outside-next.ensures.value
    ∙ goes_on x (nats_from chain chain (outer_in chain s.nat)) port c.args.place (c.in-Some.ensures h stand) c.if-place-eq0.false
