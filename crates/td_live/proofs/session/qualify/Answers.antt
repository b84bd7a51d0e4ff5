use Rattle.td_live.proofs.Words.{Asked}
use Rattle.td_live.proofs.Sessions.{OpenedLink, session_found}
use Rattle.td_live.proofs.session.qualify.Goals as goal

pub returns-clause-session : goal.returns-clause-session
returns-clause-session g c =
    let o = c.in_ok-at.ensures in
    let asked : Asked = record { inside = c.args.inside; primary = c.args.primary; secondary = c.args.secondary; seed = c.args.seed; turns = c.args.turns } in
    let opened : OpenedLink asked = record {
      at = c.in_ok-at.at;
      before = g.L.Link.state c.args.link.now;
      opened = g.L.Link.state c.open_client.new.self;
      after = g.L.Link.state c.take_turns.new.link;
      clock = g.C.Clock.state c.args.clock.now;
      clock' = g.C.Clock.state c.take_turns.new.clock;
      totals = c.take_turns.new.totals;
      result = c.take_turns.result;
      inside = o.opened.0;
      place = o.opened.1;
      stays = c.take_turns.ensures.places;
      one = o.lists;
      runs = c.take_turns.ensures.turns;
    } in
    session_found asked opened
