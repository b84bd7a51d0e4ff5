use Rattle.reach_query.proofs.Words.{List, ap, arith, err_from_is_err_and, lab_in, length, nodes, range_with_len, said_from, sym, ℕ, ◌<◌, ◌∙◌, ◌≤◌}
use Rattle.reach_query.proofs.PairNumbers.{range_whole, range_end, within_more}
use Rattle.reach_query.proofs.PairsWritten.{SomeMore, none_said, nobody_said, none_yet, pairs_on, some_more, broken_off, all_said}
use Rattle.reach_query.proofs.reach_writer.write_from.Goals as goal

pub returns-then-not-is_host-clause-said : goal.returns-then-not-is_host-clause-said
returns-then-not-is_host-clause-said g c = λ d H stands.
    none_said _ _ _ _
    (nobody_said (lab_in d c.args.world.now) H c.args.from (range_with_len 0 (length (nodes c.args.topology.now)))
    (sym c.is_host.ensures ∙ c.if-not-is_host.true))

pub returns-then-not-is_host-clause-few : goal.returns-then-not-is_host-clause-few
returns-then-not-is_host-clause-few g c = within_more _ _ _ c.requires.few (omega arith)

pub others-init : goal.others-init
others-init g c = record {
  said = λ d H stands. none_yet _ _ _ _ _ (ap (λ (ms : List ℕ). said_from (lab_in d c.args.world.now) H ms c.args.from) (range_whole (length (nodes c.args.topology.now))));
  within = omega arith;
  few = within_more _ _ _ c.requires.few (omega arith);
}

pub others-preserved : goal.others-preserved
others-preserved g c =
    let inside : c.others.to < length (nodes c.args.topology.now) = omega (arith, c.others-test.true, c.node_count-end.ensures.count) in
    let the : SomeMore = record {
      before = g.K.Sink.state c.args.out.now;
      after = g.K.Sink.state c.others.out;
      end = g.K.Sink.state c.write_pair.new.out;
      old = c.args.counts.now;
      mid = c.others.counts;
      new = c.write_pair.new.counts;
    } in
    record {
      said = λ d H stands. some_more the _ _ _ _ _ (c.others.invariant.said d H stands)
          (pairs_on (lab_in d c.args.world.now) H c.args.from c.others.to (length (nodes c.args.topology.now)) inside)
          (c.in_ok-write_pair.ensures.said d H stands);
      within = omega (arith, c.others-test.true, c.node_count-end.ensures.most);
      few = within_more _ _ _ (c.in_ok-write_pair.ensures.few _ c.others.invariant.few) (omega arith);
    }

pub returns-in_err-write_pair-clause-said : goal.returns-in_err-write_pair-clause-said
returns-in_err-write_pair-clause-said g c =
    let inside : c.others.to < length (nodes c.args.topology.now) = omega (arith, c.others-test.true, c.node_count-end.ensures.count) in
    let p = err_from_is_err_and c.from_residual.result c.from_residual.ensures.1 in
    let the : SomeMore = record {
      before = g.K.Sink.state c.args.out.now;
      after = g.K.Sink.state c.others.out;
      end = g.K.Sink.state c.write_pair.new.out;
      old = c.args.counts.now;
      mid = c.others.counts;
      new = c.write_pair.new.counts;
    } in
    λ d H stands. rw p.1 (broken_off the _ _ _ _ _ (c.others.invariant.said d H stands)
    (pairs_on (lab_in d c.args.world.now) H c.args.from c.others.to (length (nodes c.args.topology.now)) inside) _ p.0
    (c.in_err-write_pair.ensures.said d H stands))

pub returns-clause-said : goal.returns-clause-said
returns-clause-said g c =
    let end : length (nodes c.args.topology.now) ≤ c.others.to = omega (arith, c.others-test.false, c.node_count-end.ensures.count) in
    λ d H stands. all_said _ _ _ _ _ _ _ (c.others.invariant.said d H stands) (ap (λ (ms : List ℕ). said_from (lab_in d c.args.world.now) H ms c.args.from) (range_end c.others.to (length (nodes c.args.topology.now)) end))

pub returns-clause-few : goal.returns-clause-few
returns-clause-few g c = within_more _ _ _ c.others.invariant.few (omega (arith, c.others.invariant.within))
