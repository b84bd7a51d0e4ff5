use Rattle.td_live.proofs.Words.{Bool, FailsBy, LiveTotals, Stays-Moves, [], ap, arith, err_from_is_err_and, false, is_err, journal_from, journal_since, live_client, subst, true, ℕ, ◌+◌, ◌∙◌, ◌≡◌}
use Rattle.td_live.proofs.Attempts.{fails_twice}
use Rattle.td_live.proofs.Turned.{phase_told}
use Rattle.td_live.proofs.Ran.{Beginning, Reached, LiveRan, ran_first, ran_turn, ran_broken}
use Rattle.td_live.proofs.session.take_turns.Goals as goal

pub returns-in_err-take_turn-clause-turns : goal.returns-in_err-take_turn-clause-turns
returns-in_err-take_turn-clause-turns g c =
    let begin : Beginning = record {
      client = live_client c.args.asked c.args.at;
      start = c.now-first.result.0;
      most = c.args.asked.turns;
      clock = g.C.Clock.state c.args.clock.now;
      told = (g.L.Link.state c.args.link.now).told;
    } in
    let new : Reached = record {
      own = c.take_turn.new.client;
      clock = g.C.Clock.state c.now-first.new.self;
      told = (g.L.Link.state c.take_turn.new.link).told;
      totals = c.take_turn.new.totals;
    } in
    let one = ran_first begin new (is_err c.take_turn.result) (record {
      own = c.client_at-client.result;
      totals = c.args.totals.now;
      some = c.requires.some;
      at = c.client_at-client.ensures.at;
      read = record { later = c.now-first.ensures.later; given = c.now-first.ensures.given; told = c.now-first.ensures.told };
      zero = c.requires.zero;
      turn = c.take_turn.ensures.turn begin.client (journal_since begin.start []) c.client_at-client.ensures.at;
    }) in
    let broken : is_err c.take_turn.result ≡ true = ap is_err c.in_err-take_turn.was in
    let p = err_from_is_err_and c.from_residual.result c.from_residual.ensures.1 in
    ran_broken begin 1 new c.from_residual.result p.0 (subst (λ (b : Bool). LiveRan begin 1 new b) broken one) (omega arith) p.1

pub loop-turn-init : goal.loop-turn-init
loop-turn-init g c =
    let begin : Beginning = record {
      client = live_client c.args.asked c.args.at;
      start = c.now-first.result.0;
      most = c.args.asked.turns;
      clock = g.C.Clock.state c.args.clock.now;
      told = (g.L.Link.state c.args.link.now).told;
    } in
    let new : Reached = record {
      own = c.take_turn.new.client;
      clock = g.C.Clock.state c.now-first.new.self;
      told = (g.L.Link.state c.take_turn.new.link).told;
      totals = c.take_turn.new.totals;
    } in
    let one = ran_first begin new (is_err c.take_turn.result) (record {
      own = c.client_at-client.result;
      totals = c.args.totals.now;
      some = c.requires.some;
      at = c.client_at-client.ensures.at;
      read = record { later = c.now-first.ensures.later; given = c.now-first.ensures.given; told = c.now-first.ensures.told };
      zero = c.requires.zero;
      turn = c.take_turn.ensures.turn begin.client (journal_since begin.start []) c.client_at-client.ensures.at;
    }) in
    let whole : is_err c.take_turn.result ≡ false = ap is_err c.in_ok-take_turn.was in
    let sent : c.args.totals.now.sent ≡ 0 = ap (λ (t : LiveTotals). t.sent) c.requires.zero in
    let failed : c.args.totals.now.failed ≡ 0 = ap (λ (t : LiveTotals). t.failed) c.requires.zero in
    record {
      start = begin.start;
      ran = subst (λ (b : Bool). LiveRan begin 1 new b) whole one;
      callable = rw c.now-first.ensures.given c.take_turn.ensures.again;
      few = omega (arith, c.take_turn.ensures.some, sent, failed);
      receives = c.in_ok-take_turn.ensures.receives.kept;
      sends = subst (λ (n : ℕ). FailsBy (g.L.Link.state c.args.link.now).send_faults (g.L.Link.state c.take_turn.new.link).send_faults n c.take_turn.new.totals.failed) failed c.take_turn.ensures.sends;
      places = c.take_turn.ensures.places;
      asked = c.take_turn.ensures.asked;
    }

pub returns-in_err-take_turn-2-clause-turns : goal.returns-in_err-take_turn-2-clause-turns
returns-in_err-take_turn-2-clause-turns g c =
    let inv = c.loop-turn.invariant in
    let t = c.take_turn-in-loop-turn in
    let begin : Beginning = record {
      client = live_client c.args.asked c.args.at;
      start = inv.start;
      most = c.args.asked.turns;
      clock = g.C.Clock.state c.args.clock.now;
      told = (g.L.Link.state c.args.link.now).told;
    } in
    let old : Reached = record {
      own = c.loop-turn.client;
      clock = g.C.Clock.state c.loop-turn.clock;
      told = (g.L.Link.state c.loop-turn.link).told;
      totals = c.loop-turn.totals;
    } in
    let new : Reached = record {
      own = t.new.client;
      clock = g.C.Clock.state c.now-now.new.self;
      told = (g.L.Link.state t.new.link).told;
      totals = t.new.totals;
    } in
    let j = journal_from begin.client inv.start inv.ran.turns in
    let waits : c.receives.result ≡ true = c.if-not-receives.false in
    let more = ran_turn begin c.loop-turn._turn old new (is_err t.result) inv.ran (record {
      moment = c.now-now.result.0;
      few = omega (arith, c.loop-turn-test.true);
      begun = phase_told begin.client old.own j c.phase.result c.receives.result inv.ran.goes.at (c.phase.ensures j inv.ran.goes.at.stands)
          c.receives.ensures ∙ waits;
      read = record { later = c.now-now.ensures.later; given = c.now-now.ensures.given; told = c.now-now.ensures.told };
      first = λ e. absurd (omega (arith, e, c.loop-turn.auto._turn));
      turn = t.ensures.turn begin.client j inv.ran.goes.at;
    }) in
    let broken : is_err t.result ≡ true = ap is_err c.in_err-take_turn-2.was in
    let p = err_from_is_err_and c.from_residual-in_err-take_turn-2.result c.from_residual-in_err-take_turn-2.ensures.1 in
    ran_broken begin (c.loop-turn._turn + 1) new c.from_residual-in_err-take_turn-2.result p.0
    (subst (λ (b : Bool). LiveRan begin (c.loop-turn._turn + 1) new b) broken more) (omega arith) p.1

pub loop-turn-preserved : goal.loop-turn-preserved
loop-turn-preserved g c =
    let inv = c.loop-turn.invariant in
    let t = c.take_turn-in-loop-turn in
    let begin : Beginning = record {
      client = live_client c.args.asked c.args.at;
      start = inv.start;
      most = c.args.asked.turns;
      clock = g.C.Clock.state c.args.clock.now;
      told = (g.L.Link.state c.args.link.now).told;
    } in
    let old : Reached = record {
      own = c.loop-turn.client;
      clock = g.C.Clock.state c.loop-turn.clock;
      told = (g.L.Link.state c.loop-turn.link).told;
      totals = c.loop-turn.totals;
    } in
    let new : Reached = record {
      own = t.new.client;
      clock = g.C.Clock.state c.now-now.new.self;
      told = (g.L.Link.state t.new.link).told;
      totals = t.new.totals;
    } in
    let j = journal_from begin.client inv.start inv.ran.turns in
    let waits : c.receives.result ≡ true = c.if-not-receives.false in
    let more = ran_turn begin c.loop-turn._turn old new (is_err t.result) inv.ran (record {
      moment = c.now-now.result.0;
      few = omega (arith, c.loop-turn-test.true);
      begun = phase_told begin.client old.own j c.phase.result c.receives.result inv.ran.goes.at (c.phase.ensures j inv.ran.goes.at.stands)
          c.receives.ensures ∙ waits;
      read = record { later = c.now-now.ensures.later; given = c.now-now.ensures.given; told = c.now-now.ensures.told };
      first = λ e. absurd (omega (arith, e, c.loop-turn.auto._turn));
      turn = t.ensures.turn begin.client j inv.ran.goes.at;
    }) in
    let whole : is_err t.result ≡ false = ap is_err c.in_ok-take_turn-2.was in
    record {
      start = inv.start;
      ran = subst (λ (b : Bool). LiveRan begin (c.loop-turn._turn + 1) new b) whole more;
      callable = rw c.now-now.ensures.given t.ensures.again;
      few = omega (arith, t.ensures.some, inv.few);
      receives = c.in_ok-take_turn-2.ensures.receives.kept ∙ inv.receives;
      sends = fails_twice _ _ _ 0 c.loop-turn.totals.failed t.new.totals.failed inv.sends t.ensures.sends;
      places = t.ensures.places ∙ inv.places;
      asked = Stays-Moves _ _ _ _ inv.asked t.ensures.asked;
    }
