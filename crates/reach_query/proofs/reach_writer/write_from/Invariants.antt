use Rattle.reach_query.proofs.Words.{AreCountsWithin, Draws, Full, List, NODES_MAX, StandsFor, lab_in, length, nodes, range_with_len, said_from, ◌*◌, ◌+◌, ◌-◌, ◌≤◌}
use Rattle.reach_query.proofs.PairsWritten.{SaidSome}
use Rattle.reach_query.proofs.reach_writer.write_from.Given as goal

abbrev pub invariant-others : goal.invariant-others
invariant-others g l = record {
  said : (d : Draws) (H : List Full) → StandsFor d l.world H → SaidSome l.topology
      (said_from (lab_in d l.world) H (range_with_len 0 (length (nodes l.topology))) l.from)
      (said_from (lab_in d l.world) H (range_with_len l.to (length (nodes l.topology) - l.to)) l.from)
      (g.K.Sink.state l.fn.out) (g.K.Sink.state l.out) l.fn.counts l.counts;
  within : l.to ≤ NODES_MAX;
  few : AreCountsWithin (l.from * NODES_MAX + l.to) l.counts;
}

abbrev pub decreases-others : goal.decreases-others
decreases-others g l = l.end - l.to
