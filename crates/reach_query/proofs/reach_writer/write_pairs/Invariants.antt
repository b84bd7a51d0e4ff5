use Rattle.reach_query.proofs.Words.{AreCountsWithin, Draws, Full, List, NODES_MAX, StandsFor, flat_map, lab_in, length, nodes, range_with_len, said_from, said_of_each, ◌*◌, ◌-◌}
use Rattle.reach_query.proofs.PairsWritten.{SaidSome}
use Rattle.reach_query.proofs.reach_writer.write_pairs.Given as goal

abbrev pub invariant-nodes : goal.invariant-nodes
invariant-nodes g l = record {
  said : (d : Draws) (H : List Full) → StandsFor d l.world H → SaidSome l.topology
      (said_of_each (lab_in d l.world) H (range_with_len 0 (length (nodes l.topology))))
      (flat_map (said_from (lab_in d l.world) H (range_with_len 0 (length (nodes l.topology))))
      (range_with_len l.from (length (nodes l.topology) - l.from)))
      (g.K.Sink.state l.fn.out) (g.K.Sink.state l.out) l.fn.counts l.counts;
  few : AreCountsWithin (l.from * NODES_MAX) l.counts;
}

abbrev pub decreases-nodes : goal.decreases-nodes
decreases-nodes g l = l.end - l.from
