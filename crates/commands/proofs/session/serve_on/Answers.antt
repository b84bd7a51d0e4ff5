use Rattle.commands.proofs.Words.{Err, Moves-Stays, Ok, inr}
use Rattle.commands.proofs.Sessions.{Turning, IsOpened, session, breaks_off}
use Rattle.commands.proofs.session.serve_on.Goals as goal

pub returns-in-Ok-clause-opened : goal.returns-in-Ok-clause-opened
returns-in-Ok-clause-opened g c = Moves-Stays _ _ _ _ c.open.ensures.asked c.in-Ok.ensures.asked

pub returns-in-Err-clause-opened : goal.returns-in-Err-clause-opened
returns-in-Err-clause-opened g c = Moves-Stays _ _ _ _ c.open.ensures.asked c.in-Err.ensures.asked

pub returns-in-Ok-clause-served : goal.returns-in-Ok-clause-served
returns-in-Ok-clause-served g c =
    let e = c.in-Ok.ensures in
    let mid = g.L.Link.state c.open.new.self in
    let the : Turning = record {
      l = g.L.Link.state c.args.link.now;
      mid = mid;
      l' = g.L.Link.state c.serve_loop.new.link;
      c = g.C.Clock.state c.args.clock.now;
      c' = g.C.Clock.state c.serve_loop.new.clock;
      s = c.new-server.result;
    } in
    let is : IsOpened the.l mid c.args.asked.now the.s = record {
      opened = c.in_ok-open.ensures.opened;
      same = c.open.ensures.lists;
      kept = c.in_ok-open.ensures.cause.kept;
      other = c.open.ensures.other;
      made = c.new-server.ensures;
    } in
    session the c.args.asked.now c.serve_loop.new.totals is c.serve_loop.new.e (Ok tt) e.turns e.places e.receives e.sends

pub returns-in-Err-clause-failed : goal.returns-in-Err-clause-failed
returns-in-Err-clause-failed g c =
    let e = c.in-Err.ensures in
    let mid = g.L.Link.state c.open.new.self in
    let the : Turning = record {
      l = g.L.Link.state c.args.link.now;
      mid = mid;
      l' = g.L.Link.state c.serve_loop.new.link;
      c = g.C.Clock.state c.args.clock.now;
      c' = g.C.Clock.state c.serve_loop.new.clock;
      s = c.new-server.result;
    } in
    let is : IsOpened the.l mid c.args.asked.now the.s = record {
      opened = c.in_ok-open.ensures.opened;
      same = c.open.ensures.lists;
      kept = c.in_ok-open.ensures.cause.kept;
      other = c.open.ensures.other;
      made = c.new-server.ensures;
    } in
    inr (breaks_off _ _ _ _ c.args.asked.now c.serve_loop.new.totals c.in-Err.field-0
    (session the c.args.asked.now c.serve_loop.new.totals is c.serve_loop.new.e (Err c.in-Err.field-0) e.turns e.places e.receives e.sends))
