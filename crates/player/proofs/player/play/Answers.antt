use Rattle.player.proofs.Words.{Some, Stop, StopsFor, WritesNothing-refl, ap, arith, draws, err_from_is_err_and, inl, inr, length, refl, slice_get, subst, ◌<◌, ◌∙◌, ◌≡◌, ◌≤◌}
use Rattle.player.proofs.Played as played
use Rattle.player.proofs.Turns as turns
use Rattle.player.proofs.HeardTurns as onward
use Rattle.player.proofs.Endings as endings
use Rattle.player.proofs.player.play.Goals as goal

pub returns-in_err-world : goal.returns-in_err-world
returns-in_err-world g c =
    let fault = err_from_is_err_and c.from_residual.result c.from_residual.ensures.1 in
    rw (fault.1, fault.2) (refl, inl (WritesNothing-refl _))

pub returns-in_err-begin : goal.returns-in_err-begin
returns-in_err-begin g c =
    let fault = err_from_is_err_and c.from_residual-in_err-begin.result c.from_residual-in_err-begin.ensures.1 in
    rw (fault.1, fault.2) (endings.none_begun g.L.Listener.account (record {
      seed = c.args.seed;
      topology = c.args.chains.topology;
      events = c.args.events.now;
    }) c.args.chains.chain _ _ _
    (c.in_err-begin.ensures c.args.chains.topology c.requires.fresh))

pub loop-index-init : goal.loop-index-init
loop-index-init g c =
    let begun = c.in_ok-begin.ensures c.args.chains.topology c.requires.fresh in
    played.nothing_played g.L.Listener.account (record {
      seed = c.args.seed;
      topology = c.args.chains.topology;
      events = c.args.events.now;
    }) c.args.chains.chain (g.K.Sink.state c.args.out.now) _ (g.L.Listener.keeps c.args.listener.now)
    c.in_ok-world.world (c.in_ok-world.ensures.topology
    ∙ c.topology-topology.ensures.value) c.in_ok-world.ensures.chain c.in_ok-world.ensures.goes_on c.in_ok-world.ensures.stands
    c.requires.fresh begun.ok begun.cause.kept

pub loop-more-init : goal.loop-more-init
loop-more-init g c = played.event_begins g.L.Listener.account (record { seed = c.args.seed; topology = c.args.chains.topology; events = c.args.events.now }) c.args.chains.chain _ _ _ _ _ c.event-item.result c.loop-index.invariant

pub hear-requires : goal.hear-requires
hear-requires g c =
    let event : slice_get c.args.events.now c.loop-index.index ≡ Some c.event-item.result =
    played.event_at c.args.events.now c.as_slice-event-items.result.now c.loop-index.index c.event-item.result
    c.as_slice-event-items.ensures (omega arith) c.event-item.is in
    let few : c.loop-index.index < 50000 = omega (arith, ap length c.as_slice-event-items.ensures, c.requires.few) in
    let p = c.loop-more.invariant in
    let steps = turns.stepped c.loop-more.world c.step_into.new.self c.loop-index.index c.event-item.result c.step_into.result c.in-Ok.more c.step_into.new.out c.in-Ok.is c.step_into.ensures.ok in
    let turned = turns.turned g.L.Listener.account (record {
      seed = c.args.seed;
      topology = c.args.chains.topology;
      events = c.args.events.now;
    }) c.args.chains.chain (g.K.Sink.state c.args.out.now) (g.K.Sink.state c.loop-more.out)
    (g.L.Listener.keeps c.loop-more.listener) c.loop-more.world c.step_into.new.self c.loop-index.index c.event-item.result
    (turns.turn_of c.in-Ok.more c.step_into.new.out) c.step_into.new.out p few event (turns.said_in c.in-Ok.more c.step_into.new.out) steps in
    let H = turns.past g.L.Listener.account (record { seed = c.args.seed; topology = c.args.chains.topology; events = c.args.events.now })
    c.args.chains.chain (g.K.Sink.state c.args.out.now) (g.K.Sink.state c.loop-more.out) (g.L.Listener.keeps c.loop-more.listener) turned in
    let r = turns.given g.L.Listener.account (record { seed = c.args.seed; topology = c.args.chains.topology; events = c.args.events.now })
    c.args.chains.chain (g.K.Sink.state c.args.out.now) (g.K.Sink.state c.loop-more.out) (g.L.Listener.keeps c.loop-more.listener) turned in
    let news = turns.news g.L.Listener.account (record {
      seed = c.args.seed;
      topology = c.args.chains.topology;
      events = c.args.events.now;
    }) c.args.chains.chain (g.K.Sink.state c.args.out.now) (g.K.Sink.state c.loop-more.out)
    (g.L.Listener.keeps c.loop-more.listener) turned in
    turns.can_hear g.L.Listener.account (record { seed = c.args.seed; topology = c.args.chains.topology; events = c.args.events.now })
    c.args.chains.chain (g.K.Sink.state c.args.out.now) (g.K.Sink.state c.loop-more.out) (g.L.Listener.keeps c.loop-more.listener) turned

pub loop-more-preserved : goal.loop-more-preserved
loop-more-preserved g c =
    let event : slice_get c.args.events.now c.loop-index.index ≡ Some c.event-item.result =
    played.event_at c.args.events.now c.as_slice-event-items.result.now c.loop-index.index c.event-item.result
    c.as_slice-event-items.ensures (omega arith) c.event-item.is in
    let few : c.loop-index.index < 50000 = omega (arith, ap length c.as_slice-event-items.ensures, c.requires.few) in
    let p = c.loop-more.invariant in
    let steps = turns.stepped c.loop-more.world c.step_into.new.self c.loop-index.index c.event-item.result c.step_into.result c.in-Ok.more c.step_into.new.out c.in-Ok.is c.step_into.ensures.ok in
    let turned = turns.turned g.L.Listener.account (record {
      seed = c.args.seed;
      topology = c.args.chains.topology;
      events = c.args.events.now;
    }) c.args.chains.chain (g.K.Sink.state c.args.out.now) (g.K.Sink.state c.loop-more.out)
    (g.L.Listener.keeps c.loop-more.listener) c.loop-more.world c.step_into.new.self c.loop-index.index c.event-item.result
    (turns.turn_of c.in-Ok.more c.step_into.new.out) c.step_into.new.out p few event (turns.said_in c.in-Ok.more c.step_into.new.out) steps in
    let H = turns.past g.L.Listener.account (record { seed = c.args.seed; topology = c.args.chains.topology; events = c.args.events.now })
    c.args.chains.chain (g.K.Sink.state c.args.out.now) (g.K.Sink.state c.loop-more.out) (g.L.Listener.keeps c.loop-more.listener) turned in
    let r = turns.given g.L.Listener.account (record { seed = c.args.seed; topology = c.args.chains.topology; events = c.args.events.now })
    c.args.chains.chain (g.K.Sink.state c.args.out.now) (g.K.Sink.state c.loop-more.out) (g.L.Listener.keeps c.loop-more.listener) turned in
    let news = turns.news g.L.Listener.account (record {
      seed = c.args.seed;
      topology = c.args.chains.topology;
      events = c.args.events.now;
    }) c.args.chains.chain (g.K.Sink.state c.args.out.now) (g.K.Sink.state c.loop-more.out)
    (g.L.Listener.keeps c.loop-more.listener) turned in
    let grows = g.met.L.Listener.grows c.args.chains.topology H r in
    let heard = onward.heard g.L.Listener.account (record {
      seed = c.args.seed;
      topology = c.args.chains.topology;
      events = c.args.events.now;
    }) c.args.chains.chain (g.K.Sink.state c.args.out.now) (g.K.Sink.state c.loop-more.out) _
    (g.L.Listener.keeps c.loop-more.listener) turned (g.L.Listener.news c.args.chains.topology H r) grows
    (g.L.Listener.keeps c.hear.new.self) (c.in_ok-hear.ensures.kept c.args.chains.topology H r p.kept news)
    (c.in_ok-hear.ensures.written c.args.chains.topology H r p.kept news) in
    onward.goes_on g.L.Listener.account (record { seed = c.args.seed; topology = c.args.chains.topology; events = c.args.events.now })
    c.args.chains.chain (g.K.Sink.state c.args.out.now) (g.K.Sink.state c.loop-more.out) _ (g.L.Listener.keeps c.loop-more.listener) _
    turned heard (turns.more_in c.in-Ok.more c.step_into.new.out ∙ c.if-not-more.false)

pub loop-more-smaller : goal.loop-more-smaller
loop-more-smaller g c =
    let p = c.loop-more.invariant in
    let steps = turns.stepped c.loop-more.world c.step_into.new.self c.loop-index.index c.event-item.result c.step_into.result c.in-Ok.more c.step_into.new.out c.in-Ok.is c.step_into.ensures.ok in
    onward.falls_by c.loop-more.world c.step_into.new.self (turns.turn_of c.in-Ok.more c.step_into.new.out) (turns.more_in c.in-Ok.more c.step_into.new.out ∙ c.if-not-more.false) (steps.falls (draws c.args.seed) p.history p.stands)

pub loop-index-preserved : goal.loop-index-preserved
loop-index-preserved g c =
    let event : slice_get c.args.events.now c.loop-index.index ≡ Some c.event-item.result =
    played.event_at c.args.events.now c.as_slice-event-items.result.now c.loop-index.index c.event-item.result
    c.as_slice-event-items.ensures (omega arith) c.event-item.is in
    let few : c.loop-index.index < 50000 = omega (arith, ap length c.as_slice-event-items.ensures, c.requires.few) in
    let p = c.loop-more.invariant in
    let steps = turns.stepped c.loop-more.world c.step_into.new.self c.loop-index.index c.event-item.result c.step_into.result c.in-Ok.more c.step_into.new.out c.in-Ok.is c.step_into.ensures.ok in
    let turned = turns.turned g.L.Listener.account (record {
      seed = c.args.seed;
      topology = c.args.chains.topology;
      events = c.args.events.now;
    }) c.args.chains.chain (g.K.Sink.state c.args.out.now) (g.K.Sink.state c.loop-more.out)
    (g.L.Listener.keeps c.loop-more.listener) c.loop-more.world c.step_into.new.self c.loop-index.index c.event-item.result
    (turns.turn_of c.in-Ok.more c.step_into.new.out) c.step_into.new.out p few event (turns.said_in c.in-Ok.more c.step_into.new.out) steps in
    let H = turns.past g.L.Listener.account (record { seed = c.args.seed; topology = c.args.chains.topology; events = c.args.events.now })
    c.args.chains.chain (g.K.Sink.state c.args.out.now) (g.K.Sink.state c.loop-more.out) (g.L.Listener.keeps c.loop-more.listener) turned in
    let r = turns.given g.L.Listener.account (record { seed = c.args.seed; topology = c.args.chains.topology; events = c.args.events.now })
    c.args.chains.chain (g.K.Sink.state c.args.out.now) (g.K.Sink.state c.loop-more.out) (g.L.Listener.keeps c.loop-more.listener) turned in
    let news = turns.news g.L.Listener.account (record {
      seed = c.args.seed;
      topology = c.args.chains.topology;
      events = c.args.events.now;
    }) c.args.chains.chain (g.K.Sink.state c.args.out.now) (g.K.Sink.state c.loop-more.out)
    (g.L.Listener.keeps c.loop-more.listener) turned in
    let grows = g.met.L.Listener.grows c.args.chains.topology H r in
    let heard = onward.heard g.L.Listener.account (record {
      seed = c.args.seed;
      topology = c.args.chains.topology;
      events = c.args.events.now;
    }) c.args.chains.chain (g.K.Sink.state c.args.out.now) (g.K.Sink.state c.loop-more.out) _
    (g.L.Listener.keeps c.loop-more.listener) turned (g.L.Listener.news c.args.chains.topology H r) grows
    (g.L.Listener.keeps c.hear.new.self) (c.in_ok-hear.ensures.kept c.args.chains.topology H r p.kept news)
    (c.in_ok-hear.ensures.written c.args.chains.topology H r p.kept news) in
    onward.event_ends g.L.Listener.account (record {
      seed = c.args.seed;
      topology = c.args.chains.topology;
      events = c.args.events.now;
    }) c.args.chains.chain (g.K.Sink.state c.args.out.now) (g.K.Sink.state c.loop-more.out) _
    (g.L.Listener.keeps c.loop-more.listener) _ turned heard (turns.more_in c.in-Ok.more c.step_into.new.out ∙ c.if-not-more.true)

pub returns-in_err-hear : goal.returns-in_err-hear
returns-in_err-hear g c =
    let event : slice_get c.args.events.now c.loop-index.index ≡ Some c.event-item.result =
    played.event_at c.args.events.now c.as_slice-event-items.result.now c.loop-index.index c.event-item.result
    c.as_slice-event-items.ensures (omega arith) c.event-item.is in
    let few : c.loop-index.index < 50000 = omega (arith, ap length c.as_slice-event-items.ensures, c.requires.few) in
    let p = c.loop-more.invariant in
    let steps = turns.stepped c.loop-more.world c.step_into.new.self c.loop-index.index c.event-item.result c.step_into.result c.in-Ok.more c.step_into.new.out c.in-Ok.is c.step_into.ensures.ok in
    let turned = turns.turned g.L.Listener.account (record {
      seed = c.args.seed;
      topology = c.args.chains.topology;
      events = c.args.events.now;
    }) c.args.chains.chain (g.K.Sink.state c.args.out.now) (g.K.Sink.state c.loop-more.out)
    (g.L.Listener.keeps c.loop-more.listener) c.loop-more.world c.step_into.new.self c.loop-index.index c.event-item.result
    (turns.turn_of c.in-Ok.more c.step_into.new.out) c.step_into.new.out p few event (turns.said_in c.in-Ok.more c.step_into.new.out) steps in
    let H = turns.past g.L.Listener.account (record { seed = c.args.seed; topology = c.args.chains.topology; events = c.args.events.now })
    c.args.chains.chain (g.K.Sink.state c.args.out.now) (g.K.Sink.state c.loop-more.out) (g.L.Listener.keeps c.loop-more.listener) turned in
    let r = turns.given g.L.Listener.account (record { seed = c.args.seed; topology = c.args.chains.topology; events = c.args.events.now })
    c.args.chains.chain (g.K.Sink.state c.args.out.now) (g.K.Sink.state c.loop-more.out) (g.L.Listener.keeps c.loop-more.listener) turned in
    let news = turns.news g.L.Listener.account (record {
      seed = c.args.seed;
      topology = c.args.chains.topology;
      events = c.args.events.now;
    }) c.args.chains.chain (g.K.Sink.state c.args.out.now) (g.K.Sink.state c.loop-more.out)
    (g.L.Listener.keeps c.loop-more.listener) turned in
    let grows = g.met.L.Listener.grows c.args.chains.topology H r in
    let fault = err_from_is_err_and c.from_residual-in_err-hear.result c.from_residual-in_err-hear.ensures.1 in
    rw (fault.1, fault.2) (onward.broken g.L.Listener.account (record {
      seed = c.args.seed;
      topology = c.args.chains.topology;
      events = c.args.events.now;
    }) c.args.chains.chain (g.K.Sink.state c.args.out.now) (g.K.Sink.state c.loop-more.out) _
    (g.L.Listener.keeps c.loop-more.listener) turned (g.L.Listener.news c.args.chains.topology H r) grows _
    (c.in_err-hear.ensures.written c.args.chains.topology H r p.kept news))

pub returns-in-NoMemory : goal.returns-in-NoMemory
returns-in-NoMemory g c =
    let event : slice_get c.args.events.now c.loop-index.index ≡ Some c.event-item.result =
    played.event_at c.args.events.now c.as_slice-event-items.result.now c.loop-index.index c.event-item.result
    c.as_slice-event-items.ensures (omega arith) c.event-item.is in
    let few : c.loop-index.index < 50000 = omega (arith, ap length c.as_slice-event-items.ensures, c.requires.few) in (
      c.loop-more.invariant.quiet,
      inr (endings.starves g.L.Listener.account (record {
        seed = c.args.seed;
        topology = c.args.chains.topology;
        events = c.args.events.now;
      }) c.args.chains.chain (g.K.Sink.state c.args.out.now) (g.K.Sink.state c.loop-more.out)
          (g.L.Listener.keeps c.loop-more.listener) c.loop-more.world c.loop-index.index c.event-item.result c.loop-more.invariant event
          (subst (λ (z : Stop). StopsFor c.loop-more.world c.loop-index.index c.event-item.result z) c.in-NoMemory.is
          (endings.stopped_for c.loop-more.world c.loop-index.index c.event-item.result c.step_into.result c.in-Err.stop c.in-Err.is
          c.loop-more.invariant.open_still c.step_into.ensures.cause))),
    )

pub returns-in-WireFull : goal.returns-in-WireFull
returns-in-WireFull g c =
    let event : slice_get c.args.events.now c.loop-index.index ≡ Some c.event-item.result =
    played.event_at c.args.events.now c.as_slice-event-items.result.now c.loop-index.index c.event-item.result
    c.as_slice-event-items.ensures (omega arith) c.event-item.is in
    let few : c.loop-index.index < 50000 = omega (arith, ap length c.as_slice-event-items.ensures, c.requires.few) in
    let p = c.loop-more.invariant in
    let fills = endings.fills g.L.Listener.account (record {
      seed = c.args.seed;
      topology = c.args.chains.topology;
      events = c.args.events.now;
    }) c.args.chains.chain (g.K.Sink.state c.args.out.now) (g.K.Sink.state c.loop-more.out)
    (g.L.Listener.keeps c.loop-more.listener) c.loop-more.world c.loop-index.index c.event-item.result p event
    (subst (λ (z : Stop). StopsFor c.loop-more.world c.loop-index.index c.event-item.result z) c.in-WireFull.is
    (endings.stopped_for c.loop-more.world c.loop-index.index c.event-item.result c.step_into.result c.in-Err.stop c.in-Err.is
    c.loop-more.invariant.open_still c.step_into.ensures.cause)) in
    endings.filled g.L.Listener.account (record { seed = c.args.seed; topology = c.args.chains.topology; events = c.args.events.now })
    c.args.chains.chain (g.K.Sink.state c.args.out.now) (g.K.Sink.state c.loop-more.out) _ p.history p.written p.quiet fills
    c.in_ok-break_off-in-WireFull.ensures

pub returns-in_err-break_off-in-WireFull : goal.returns-in_err-break_off-in-WireFull
returns-in_err-break_off-in-WireFull g c =
    let event : slice_get c.args.events.now c.loop-index.index ≡ Some c.event-item.result =
    played.event_at c.args.events.now c.as_slice-event-items.result.now c.loop-index.index c.event-item.result
    c.as_slice-event-items.ensures (omega arith) c.event-item.is in
    let few : c.loop-index.index < 50000 = omega (arith, ap length c.as_slice-event-items.ensures, c.requires.few) in
    let p = c.loop-more.invariant in
    let fills = endings.fills g.L.Listener.account (record {
      seed = c.args.seed;
      topology = c.args.chains.topology;
      events = c.args.events.now;
    }) c.args.chains.chain (g.K.Sink.state c.args.out.now) (g.K.Sink.state c.loop-more.out)
    (g.L.Listener.keeps c.loop-more.listener) c.loop-more.world c.loop-index.index c.event-item.result p event
    (subst (λ (z : Stop). StopsFor c.loop-more.world c.loop-index.index c.event-item.result z) c.in-WireFull.is
    (endings.stopped_for c.loop-more.world c.loop-index.index c.event-item.result c.step_into.result c.in-Err.stop c.in-Err.is
    c.loop-more.invariant.open_still c.step_into.ensures.cause)) in
    let fault = err_from_is_err_and c.from_residual-in_err-break_off-in-WireFull.result c.from_residual-in_err-break_off-in-WireFull.ensures.1 in
    rw (fault.1, fault.2) (endings.not_filled g.L.Listener.account (record {
      seed = c.args.seed;
      topology = c.args.chains.topology;
      events = c.args.events.now;
    }) c.args.chains.chain (g.K.Sink.state c.args.out.now) (g.K.Sink.state c.loop-more.out) _ p.history
    p.written p.quiet _ fills c.in_err-break_off-in-WireFull.ensures)

pub returns-in_err-end : goal.returns-in_err-end
returns-in_err-end g c =
    let end : length c.args.events.now ≤ c.loop-index.index = omega (arith, ap length c.as_slice-event-items.ensures, c.loop-index-test.false) in
    let p = c.loop-index.invariant in
    let whole = endings.all_played g.L.Listener.account (record { seed = c.args.seed; topology = c.args.chains.topology; events = c.args.events.now }) c.args.chains.chain _ _ _ c.loop-index.world c.loop-index.index p end in
    let fault = err_from_is_err_and c.from_residual-in_err-end.result c.from_residual-in_err-end.ensures.1 in
    rw (fault.1, fault.2) (endings.not_ended g.L.Listener.account (record {
      seed = c.args.seed;
      topology = c.args.chains.topology;
      events = c.args.events.now;
    }) c.args.chains.chain _ _ _ p.history p.written p.quiet _ whole
    (endings.at_end g.L.Listener.account (record { seed = c.args.seed; topology = c.args.chains.topology; events = c.args.events.now })
    c.args.chains.chain _ _ _ (g.L.Listener.keeps c.loop-index.listener) c.loop-index.world c.loop-index.index p _ c.in_err-end.ensures))

pub returns : goal.returns
returns g c =
    let end : length c.args.events.now ≤ c.loop-index.index = omega (arith, ap length c.as_slice-event-items.ensures, c.loop-index-test.false) in
    let p = c.loop-index.invariant in
    let whole = endings.all_played g.L.Listener.account (record { seed = c.args.seed; topology = c.args.chains.topology; events = c.args.events.now }) c.args.chains.chain _ _ _ c.loop-index.world c.loop-index.index p end in
    endings.ended g.L.Listener.account (record { seed = c.args.seed; topology = c.args.chains.topology; events = c.args.events.now })
    c.args.chains.chain _ _ _ p.history p.written p.quiet whole
    (endings.at_end g.L.Listener.account (record { seed = c.args.seed; topology = c.args.chains.topology; events = c.args.events.now })
    c.args.chains.chain _ _ _ (g.L.Listener.keeps c.loop-index.listener) c.loop-index.world c.loop-index.index p _ c.in_ok-end.ensures)
