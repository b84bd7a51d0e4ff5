use Rattle.td_turns.proofs.Words.{SendFaults, Stays, ◌≡◌}
use Rattle.td_turns.proofs.Lessened.{Ran}
use Rattle.td_turns.proofs.ticks.tick_through.Given as goal

abbrev pub invariant-loop-failed : goal.invariant-loop-failed
invariant-loop-failed g l = record {
  ran : Ran (λ s. g.E.Endpoint.ticks s l.fn.now.0) (λ s. g.E.Endpoint.owing s l.fn.now.0) l.fn.e l.e (g.L.Link.state l.fn.link).told (g.L.Link.state l.link).told l.fn.step l.step l.failures;
  ready : g.E.Endpoint.ready l.e l.fn.now.0;
  receives : (g.L.Link.state l.link).recv_faults ≡ (g.L.Link.state l.fn.link).recv_faults;
  sends : SendFaults (g.L.Link.state l.fn.link).send_faults (g.L.Link.state l.link).send_faults l.failures;
  places : (g.L.Link.state l.link).place ≡ (g.L.Link.state l.fn.link).place;
  asked : Stays (g.L.Link.state l.fn.link).openings (g.L.Link.state l.link).openings;
}

abbrev pub decreases-loop-failed : goal.decreases-loop-failed
decreases-loop-failed g l = g.E.Endpoint.owing l.e l.fn.now.0
