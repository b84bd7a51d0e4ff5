use Rattle.td_live.proofs.Words.{FailsBy, IsCallable, Stays, false, live_client, ℕ, ◌*◌, ◌+◌, ◌≡◌, ◌≤◌}
use Rattle.td_live.proofs.Ran.{LiveRan}
use Rattle.td_live.proofs.session.take_turns.Given as goal

abbrev pub invariant-loop-turn : goal.invariant-loop-turn
invariant-loop-turn g l = record {
  start : ℕ;
  ran : LiveRan (record {
    client = live_client l.fn.asked l.fn.at;
    start = start;
    most = l.fn.asked.turns;
    clock = g.C.Clock.state l.fn.clock;
    told
        = (g.L.Link.state l.fn.link).told;
  })
      l._turn (record { own = l.client; clock = g.C.Clock.state l.clock; told = (g.L.Link.state l.link).told; totals = l.totals }) false;
  callable : IsCallable l.client (g.C.Clock.state l.clock).last;
  few : l.totals.sent + l.totals.failed ≤ 16 * l._turn;
  receives : (g.L.Link.state l.link).recv_faults ≡ (g.L.Link.state l.fn.link).recv_faults;
  sends : FailsBy (g.L.Link.state l.fn.link).send_faults (g.L.Link.state l.link).send_faults 0 l.totals.failed;
  places : (g.L.Link.state l.link).place ≡ (g.L.Link.state l.fn.link).place;
  asked : Stays (g.L.Link.state l.fn.link).openings (g.L.Link.state l.link).openings;
}
