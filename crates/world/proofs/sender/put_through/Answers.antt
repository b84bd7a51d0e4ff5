use Rattle.world.proofs.Words.{AreNatsAmid, Bool, ChainsState, Send, TopologyState, ap, crossing_unless, err_from_is_err_and, is_at_place, is_nat, node_at, source_or_loss, subst, sym, take, true, way_out, ◌≡◌}
use Rattle.world.proofs.Amid.{amid_whole, stops_amid}
use Rattle.world.proofs.Through.{Through, Crosses, SendPassed, SendAt, sent_in, none_through, one_through, stops_through, starves_through, same_twice}
use Rattle.world.proofs.sender.put_through.Goals as goal

pub loop-i-init : goal.loop-i-init
loop-i-init c =
    let w : Through = record { moment = c.args.sender.now.0; nat = c.args.from.nat; inside = c.args.from.inside; fails = c.args.sender.fails } in
    none_through w c.args.wire.now c.args.nats.now c.args.step.now.sends c.args.marks.now c.requires.none c.requires.clock

-- it leaves through the NAT that was there
pub cross_unless-requires-clause-nat : goal.cross_unless-requires-clause-nat
cross_unless-requires-clause-nat c =
    let same = ap (λ (x : ChainsState). x.topology) c.loop-i.invariant.same in
    subst (λ (t : TopologyState). is_nat (node_at t c.args.from.nat) ≡ true) (sym same) c.requires.nat

pub loop-i-preserved : goal.loop-i-preserved
loop-i-preserved c =
    let w : Through = record { moment = c.args.sender.now.0; nat = c.args.from.nat; inside = c.args.from.inside; fails = c.args.sender.fails } in
    let x : Send = record { side = c.send.result.0; to = c.send.result.1; bytes = c.send.result.2.now } in
    let src = source_or_loss c.in_ok-egress.egress in
    let crosses : Crosses w (is_at_place c.loop-i.i w.fails) c.loop-i.nats c.cross_unless.new.nats x.to src =
    subst (λ (b : Bool). Crosses w b c.loop-i.nats c.cross_unless.new.nats x.to src) c.is_failing-failing.ensures
    (record { crosses = c.in_ok-egress.ensures.crosses; same = c.cross_unless.ensures.same; clock = c.cross_unless.ensures.clock }) in
    let next : SendAt c.args.step.now.sends c.loop-i.i = record { x = x; at = c.send.ensures.place } in
    let the : SendPassed = record {
      now = c.loop-i.wire;
      new = c.send-in-loop-i.new.self;
      nats = c.loop-i.nats;
      nats' = c.cross_unless.new.nats;
      said = c.loop-i.marks;
      more = c.send-in-loop-i.new.marks;
      src = src;
    } in
    one_through w c.args.wire.now c.args.nats.now c.args.step.now.sends c.loop-i.i next the c.loop-i.invariant crosses
    (c.in_ok-send.ensures.puts x.side)

pub returns-in_err-send-clause-puts : goal.returns-in_err-send-clause-puts
returns-in_err-send-clause-puts c =
    let p = err_from_is_err_and c.from_residual-in_err-send.result c.from_residual-in_err-send.ensures.1 in
    let w : Through = record { moment = c.args.sender.now.0; nat = c.args.from.nat; inside = c.args.from.inside; fails = c.args.sender.fails } in
    let x : Send = record { side = c.send.result.0; to = c.send.result.1; bytes = c.send.result.2.now } in
    let src = source_or_loss c.in_ok-egress.egress in
    let crosses : Crosses w (is_at_place c.loop-i.i w.fails) c.loop-i.nats c.cross_unless.new.nats x.to src =
    subst (λ (b : Bool). Crosses w b c.loop-i.nats c.cross_unless.new.nats x.to src) c.is_failing-failing.ensures
    (record { crosses = c.in_ok-egress.ensures.crosses; same = c.cross_unless.ensures.same; clock = c.cross_unless.ensures.clock }) in
    let next : SendAt c.args.step.now.sends c.loop-i.i = record { x = x; at = c.send.ensures.place } in
    let the : SendPassed = record {
      now = c.loop-i.wire;
      new = c.send-in-loop-i.new.self;
      nats = c.loop-i.nats;
      nats' = c.cross_unless.new.nats;
      said = c.loop-i.marks;
      more = c.send-in-loop-i.new.marks;
      src = src;
    } in
    rw (p.1, p.2) (stops_through w c.args.wire.now c.args.nats.now c.args.step.now.sends c.loop-i.i next the c.in_err-send.field-0.0 c.loop-i.invariant crosses
    (c.in_err-send.ensures.puts x.side))

pub returns-in_err-send-clause-same : goal.returns-in_err-send-clause-same
returns-in_err-send-clause-same c = same_twice c.args.nats.now c.loop-i.nats c.cross_unless.new.nats c.loop-i.invariant.same c.cross_unless.ensures.same

pub returns-in_err-egress-clause-puts : goal.returns-in_err-egress-clause-puts
returns-in_err-egress-clause-puts c =
    let p = err_from_is_err_and c.from_residual.result c.from_residual.ensures.1 in
    let w : Through = record { moment = c.args.sender.now.0; nat = c.args.from.nat; inside = c.args.from.inside; fails = c.args.sender.fails } in
    let x : Send = record { side = c.send.result.0; to = c.send.result.1; bytes = c.send.result.2.now } in
    rw (p.1, p.2, c.in_err-egress.ensures.needs) (λ lab H is. starves_through w c.args.step.now.sends c.loop-i.i x c.send.ensures.place lab H)

pub returns-in_err-egress-clause-same : goal.returns-in_err-egress-clause-same
returns-in_err-egress-clause-same c = same_twice c.args.nats.now c.loop-i.nats c.cross_unless.new.nats c.loop-i.invariant.same c.cross_unless.ensures.same

pub returns-in_err-send-clause-amid : goal.returns-in_err-send-clause-amid
returns-in_err-send-clause-amid c =
    let p = err_from_is_err_and c.from_residual-in_err-send.result c.from_residual-in_err-send.ensures.1 in
    let w : Through = record { moment = c.args.sender.now.0; nat = c.args.from.nat; inside = c.args.from.inside; fails = c.args.sender.fails } in
    let x : Send = record { side = c.send.result.0; to = c.send.result.1; bytes = c.send.result.2.now } in
    let src = source_or_loss c.in_ok-egress.egress in
    let crosses : Crosses w (is_at_place c.loop-i.i w.fails) c.loop-i.nats c.cross_unless.new.nats x.to src =
    subst (λ (b : Bool). Crosses w b c.loop-i.nats c.cross_unless.new.nats x.to src) c.is_failing-failing.ensures
    (record { crosses = c.in_ok-egress.ensures.crosses; same = c.cross_unless.ensures.same; clock = c.cross_unless.ensures.clock }) in
    rw (p.1) (λ lab H is. stops_amid w c.args.step.now.sends c.loop-i.i x c.send.ensures.place lab H c.cross_unless.new.nats
    (amid_whole lab H _ c.cross_unless.new.nats (crosses.crosses lab H (sent_in w lab H (take c.loop-i.i c.args.step.now.sends)).passed (c.loop-i.invariant.knows lab H is)).knows))

pub returns-in_err-egress-clause-amid : goal.returns-in_err-egress-clause-amid
returns-in_err-egress-clause-amid c =
    let p = err_from_is_err_and c.from_residual.result c.from_residual.ensures.1 in
    let w : Through = record { moment = c.args.sender.now.0; nat = c.args.from.nat; inside = c.args.from.inside; fails = c.args.sender.fails } in
    let x : Send = record { side = c.send.result.0; to = c.send.result.1; bytes = c.send.result.2.now } in
    rw (p.1) (λ lab H is. let front = (sent_in w lab H (take c.loop-i.i c.args.step.now.sends)).passed in
    stops_amid w c.args.step.now.sends c.loop-i.i x c.send.ensures.place lab H c.cross_unless.new.nats
    (subst (λ (b : Bool). AreNatsAmid lab H (crossing_unless b lab H w.moment x.to (way_out lab.chain w.nat) w.inside front).passed c.cross_unless.new.nats) c.is_failing-failing.ensures
    (c.in_err-egress.ensures.amid lab H front (c.loop-i.invariant.knows lab H is))))
