use Rattle.icmp6.proofs.Words.{err_from_is_err_and}
use Rattle.icmp6.proofs.WalkSteps.{walk_begins, walk_goes_on, walk_stops, walk_ends}
use Rattle.icmp6.proofs.walk.are_whole.Goals as goal

pub loop-place-init : goal.loop-place-init
loop-place-init c = (c.requires, walk_begins c.args.start c.args.bytes.now)

pub returns-in_err-place : goal.returns-in_err-place
returns-in_err-place c =
    let p = err_from_is_err_and c.from_residual.result c.from_residual.ensures.1 in
    rw (p.1, p.2) (walk_stops c.args.start c.loop-place.place _ c.args.bytes.now c.loop-place-test.true c.in_err-place.ensures.exact c.loop-place.invariant.1)

pub loop-place-preserved : goal.loop-place-preserved
loop-place-preserved c =
    (c.in_ok-place.ensures.whole.1, walk_goes_on c.args.start c.loop-place.place _ c.args.bytes.now c.loop-place-test.true c.in_ok-place.ensures.exact c.in_ok-place.ensures.whole.0 c.loop-place.invariant.1)

pub returns : goal.returns
returns c = walk_ends c.args.start c.loop-place.place c.args.bytes.now c.loop-place-test.false c.loop-place.invariant.1
