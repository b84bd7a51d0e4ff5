use Rattle.state_writer.proofs.Words.{ChainsStandFor, ChainsState, Err, Failed, List, None, Ok, Passing, Some, TopologyState, WritesFacts, ap, arith, at_node, err_from_is_err_and, flat_map, lab_in, length, map, nat_pasts, nat_set_up, nothing_wrote, option_map, passed_facts, passing_facts, passing_of, slice_get, subst, sym, walk, way_out, ◌++◌, ◌+◌, ◌<◌, ◌∙◌, ◌≡◌}
use Rattle.state_writer.proofs.Sequence.{facts_both, facts_broken_off}
use Rattle.state_writer.proofs.Walking.{FoundAt, walk_ends, none_further, told_there, is_found, place_unwritten, places_written}
use Rattle.state_writer.proofs.at_nats.+write_walk.Goals as goal

pub returns-in_default : goal.returns-in_default
returns-in_default g n c = λ d H stands.
    let w = c.args.world.now in
    let s = c.args.sending in
    let h = nat_pasts (lab_in d w) H in
    let ps = walk w.topology h w.moment s.dst (way_out w.chain s.nat) s.inside in
    let stand = subst (λ (x : ChainsState). ChainsStandFor x h) (sym c.nats.ensures.kept) stands.nats.stands in
    let told : option_map passing_of c.walked.result ≡ slice_get ps c.args.place = told_there h s.nat s.dst s.inside c.args.place c.walked.result c.nats.ensures.same c.nats.ensures.chain c.requires.moment (c.walked.ensures h stand) in
    let none : slice_get ps c.args.place ≡ None = sym told ∙ ap (option_map passing_of) c.in_default.is in
    subst (λ (xs : List Passing). WritesFacts {E = Failed} w.topology (Some c.args.index) w.moment (g.K.Sink.state c.args.out.now) (g.K.Sink.state c.args.out.now) (flat_map (passing_facts w.topology) xs) (Ok tt))
    (sym (none_further w.topology ps c.args.place none)) (nothing_wrote _)

pub returns-in_err-write_sent : goal.returns-in_err-write_sent
returns-in_err-write_sent g n c = λ d H stands.
    let w = c.args.world.now in
    let s = c.args.sending in
    let h = nat_pasts (lab_in d w) H in
    let x = c.in-Some.let_out in
    let ps = walk w.topology h w.moment s.dst (way_out w.chain s.nat) s.inside in
    let stand = subst (λ (y : ChainsState). ChainsStandFor y h) (sym c.nats.ensures.kept) stands.nats.stands in
    let found : FoundAt w.moment ps c.args.place x s.now = is_found h s.nat s.dst s.inside c.args.place c.walked.result c.nats.ensures.same c.nats.ensures.chain c.requires.moment (c.walked.ensures h stand) c.in-Some.is in
    let p = err_from_is_err_and c.from_residual.result c.from_residual.ensures.1 in
    let sent = subst (λ (t : TopologyState). WritesFacts {E = Failed} t (Some c.args.index) s.now.0 (g.K.Sink.state c.args.out.now) (g.K.Sink.state c.write_sent.new.out)
    (map (at_node x.nat) (passed_facts (nat_set_up t x.nat) (record x.datagram { moment = s.now }))) (Err c.in_err-write_sent.field-0.0)) c.topology.ensures c.in_err-write_sent.ensures in
    rw p.1 (place_unwritten w.topology (Some c.args.index) w.moment ps c.args.place x s.now found (g.K.Sink.state c.args.out.now) (g.K.Sink.state c.write_sent.new.out) _ p.0 sent)

pub returns-then-place-nestings : goal.returns-then-place-nestings
returns-then-place-nestings g n c = λ d H stands.
    let w = c.args.world.now in
    let s = c.args.sending in
    let h = nat_pasts (lab_in d w) H in
    let x = c.in-Some.let_out in
    let ps = walk w.topology h w.moment s.dst (way_out w.chain s.nat) s.inside in
    let stand = subst (λ (y : ChainsState). ChainsStandFor y h) (sym c.nats.ensures.kept) stands.nats.stands in
    let found : FoundAt w.moment ps c.args.place x s.now = is_found h s.nat s.dst s.inside c.args.place c.walked.result c.nats.ensures.same c.nats.ensures.chain c.requires.moment (c.walked.ensures h stand) c.in-Some.is in
    let past : length w.chain < c.args.place + 1 = omega (arith, c.if-place-nestings.true, c.nestings.ensures, ap length c.nats-2.ensures.chain) in
    let none = walk_ends w.topology h w.moment s.dst w.chain s.nat s.inside (c.args.place + 1) past in
    let b = g.K.Sink.state c.write_sent.new.out in
    let sent = subst (λ (t : TopologyState). WritesFacts {E = Failed} t (Some c.args.index) s.now.0 (g.K.Sink.state c.args.out.now) (g.K.Sink.state c.write_sent.new.out)
    (map (at_node x.nat) (passed_facts (nat_set_up t x.nat) (record x.datagram { moment = s.now }))) (Ok tt)) c.topology.ensures c.in_ok-write_sent.ensures in
    places_written w.topology (Some c.args.index) w.moment ps c.args.place x s.now found (g.K.Sink.state c.args.out.now) b b (Ok tt) sent
    (subst (λ (xs : List Passing). WritesFacts {E = Failed} w.topology (Some c.args.index) w.moment b b (flat_map (passing_facts w.topology) xs) (Ok tt)) (sym none) (nothing_wrote _))

pub returns : goal.returns
returns g n c = λ d H stands.
    let w = c.args.world.now in
    let s = c.args.sending in
    let h = nat_pasts (lab_in d w) H in
    let x = c.in-Some.let_out in
    let ps = walk w.topology h w.moment s.dst (way_out w.chain s.nat) s.inside in
    let stand = subst (λ (y : ChainsState). ChainsStandFor y h) (sym c.nats.ensures.kept) stands.nats.stands in
    let found : FoundAt w.moment ps c.args.place x s.now = is_found h s.nat s.dst s.inside c.args.place c.walked.result c.nats.ensures.same c.nats.ensures.chain c.requires.moment (c.walked.ensures h stand) c.in-Some.is in
    let sent = subst (λ (t : TopologyState). WritesFacts {E = Failed} t (Some c.args.index) s.now.0 (g.K.Sink.state c.args.out.now) (g.K.Sink.state c.write_sent.new.out)
    (map (at_node x.nat) (passed_facts (nat_set_up t x.nat) (record x.datagram { moment = s.now }))) (Ok tt)) c.topology.ensures c.in_ok-write_sent.ensures in
    places_written w.topology (Some c.args.index) w.moment ps c.args.place x s.now found (g.K.Sink.state c.args.out.now) (g.K.Sink.state c.write_sent.new.out) (g.K.Sink.state c.write_walk.new.out) _ sent
    (c.write_walk.ensures d H stands)
