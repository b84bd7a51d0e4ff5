use Rattle.reach_query.proofs.Words.{ap, arith, err_from_is_err_and, flat_map, lab_in, length, nodes, range_with_len, said_from, ◌<◌, ◌≤◌}
use Rattle.reach_query.proofs.PairNumbers.{range_whole, range_end}
use Rattle.reach_query.proofs.PairsWritten.{SomeMore, none_yet, nodes_on, some_more, broken_off, all_said}
use Rattle.reach_query.proofs.reach_writer.write_pairs.Goals as goal

pub nodes-init : goal.nodes-init
nodes-init g c =
    let numbers = range_with_len 0 (length (nodes c.args.topology.now)) in
    record {
      said = λ d H stands. none_yet _ _ _ _ _ (ap (flat_map (said_from (lab_in d c.args.world.now) H numbers)) (range_whole (length (nodes c.args.topology.now))));
      few = c.requires.few;
    }

pub nodes-preserved : goal.nodes-preserved
nodes-preserved g c =
    let numbers = range_with_len 0 (length (nodes c.args.topology.now)) in
    let inside : c.nodes.from < length (nodes c.args.topology.now) = omega (arith, c.nodes-test.true, c.node_count-end.ensures.count) in
    let the : SomeMore = record {
      before = g.K.Sink.state c.args.out.now;
      after = g.K.Sink.state c.nodes.out;
      end = g.K.Sink.state c.write_from.new.out;
      old = c.args.counts.now;
      mid = c.nodes.counts;
      new = c.write_from.new.counts;
    } in
    record {
      said = λ d H stands. some_more the _ _ _ _ _ (c.nodes.invariant.said d H stands)
          (nodes_on (lab_in d c.args.world.now) H numbers c.nodes.from (length (nodes c.args.topology.now)) inside)
          (c.in_ok-write_from.ensures.said d H stands);
      few = c.in_ok-write_from.ensures.few;
    }

pub returns-in_err-write_from : goal.returns-in_err-write_from
returns-in_err-write_from g c =
    let numbers = range_with_len 0 (length (nodes c.args.topology.now)) in
    let inside : c.nodes.from < length (nodes c.args.topology.now) = omega (arith, c.nodes-test.true, c.node_count-end.ensures.count) in
    let p = err_from_is_err_and c.from_residual.result c.from_residual.ensures.1 in
    let the : SomeMore = record {
      before = g.K.Sink.state c.args.out.now;
      after = g.K.Sink.state c.nodes.out;
      end = g.K.Sink.state c.write_from.new.out;
      old = c.args.counts.now;
      mid = c.nodes.counts;
      new = c.write_from.new.counts;
    } in
    λ d H stands. rw p.1 (broken_off the _ _ _ _ _ (c.nodes.invariant.said d H stands)
    (nodes_on (lab_in d c.args.world.now) H numbers c.nodes.from (length (nodes c.args.topology.now)) inside) _ p.0
    (c.in_err-write_from.ensures.said d H stands))

pub returns : goal.returns
returns g c =
    let numbers = range_with_len 0 (length (nodes c.args.topology.now)) in
    let end : length (nodes c.args.topology.now) ≤ c.nodes.from = omega (arith, c.nodes-test.false, c.node_count-end.ensures.count) in
    λ d H stands. all_said _ _ _ _ _ _ _ (c.nodes.invariant.said d H stands) (ap (flat_map (said_from (lab_in d c.args.world.now) H numbers)) (range_end c.nodes.from (length (nodes c.args.topology.now)) end))
