use Rattle.td_live.proofs.Words.{after_due, false, on_err_weaker, on_ok_weaker, true, ◌≡◌}
use Rattle.td_live.proofs.Entries.{Point}
use Rattle.td_live.proofs.Turned.{StillWaits, phase_told, turn_over, turn_whole}
use Rattle.td_live.proofs.turn.take_turn.Goals as goal

pub returns-then-not-receives-clause-turn : goal.returns-then-not-receives-clause-turn
returns-then-not-receives-clause-turn g c =
    λ client j at.
    let goes = c.do_due.ensures.goes client j at in
    let over : c.receives.result ≡ false = c.if-not-receives.true in
    let from : Point = record { client = c.args.client.now; journal = j; told = (g.L.Link.state c.args.link.now).told; totals = c.args.totals.now } in
    let to : Point = record {
      client = c.do_due.new.client;
      journal = after_due client j c.args.now.0;
      told = (g.L.Link.state c.do_due.new.link).told;
      totals = c.do_due.new.totals;
    } in
    turn_over client c.args.now.0 from to goes
    (rw (← over) (phase_told client c.do_due.new.client (after_due client j c.args.now.0) c.phase.result c.receives.result goes.at (c.phase.ensures (after_due client j c.args.now.0) goes.at.stands) c.receives.ensures))

pub take_next-requires-clause-asking : goal.take_next-requires-clause-asking
take_next-requires-clause-asking g c =
    let some = c.requires.somewhere in
    let k = after_due some.client some.journal c.args.now.0 in
    let goes = c.do_due.ensures.goes some.client some.journal some.at in
    let waits : c.receives.result ≡ true = c.if-not-receives.false in
    record {
      somewhere = record { client = some.client; journal = k; at = goes.at };
      phase = rw (← waits) (phase_told some.client c.do_due.new.client k c.phase.result c.receives.result goes.at (c.phase.ensures k goes.at.stands) c.receives.ensures);
    }

pub returns-clause-turn : goal.returns-clause-turn
returns-clause-turn g c =
    λ client j at.
    let n = c.args.now.0 in
    let k = after_due client j n in
    let goes = c.do_due.ensures.goes client j at in
    let waits : c.receives.result ≡ true = c.if-not-receives.false in
    let from : Point = record { client = c.args.client.now; journal = j; told = (g.L.Link.state c.args.link.now).told; totals = c.args.totals.now } in
    let to : Point = record { client = c.take_next.new.client; journal = k; told = (g.L.Link.state c.take_next.new.link).told; totals = c.take_next.new.totals }
    in
    let still : StillWaits client n from = record {
      client = c.do_due.new.client;
      told = (g.L.Link.state c.do_due.new.link).told;
      totals = c.do_due.new.totals;
      due = goes;
      asking = rw (← waits) (phase_told client c.do_due.new.client k c.phase.result c.receives.result goes.at (c.phase.ensures k goes.at.stands)
          c.receives.ensures);
    } in
    turn_whole client n from to still c.take_next.result
    (on_ok_weaker c.take_next.result (λ all. all client k goes.at) c.take_next.ensures.goes)
    (on_err_weaker c.take_next.result (λ all. all client k goes.at) c.take_next.ensures.broke)
