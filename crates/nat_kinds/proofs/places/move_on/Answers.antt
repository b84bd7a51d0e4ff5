use Rattle.nat_kinds.proofs.Words.{ap, arith, if_young, sym, ◌∙◌}
use Rattle.nat_kinds.proofs.PlaceLemmas.{place_in, place_past}
use Rattle.nat_kinds.proofs.ShowsLemmas.{young_from}
use Rattle.nat_kinds.proofs.FrontLemmas.{TakesIn, front_taken_in, live_taken_in}
use Rattle.nat_kinds.proofs.places.move_on.Goals as goal

pub loop-front-preserved : goal.loop-front-preserved
loop-front-preserved c =
    let stands = young_from c.args.idle c.args.now.0 _ c.in-Some.sent (sym c.if_young.ensures ∙ c.in-Some.is) in
    let more : TakesIn c.args.places.now c.loop-front.front c.take_in.new.self = record {
      sent = c.in-Some.sent;
      there = place_in c.args.places.now c.loop-front.front.len c.loop-front-test.true ∙ stands.0;
      len = c.take_in.ensures.len;
      since = c.take_in.ensures.since;
      moment = c.take_in.ensures.moment;
    } in
    record {
      front = front_taken_in _ _ _ more c.loop-front.invariant.front;
      live = live_taken_in c.args.idle c.args.now.0 _ _ _ more stands.1 c.loop-front.invariant.live;
      since = omega (arith, c.take_in.ensures.since, c.loop-front.invariant.since);
      short = omega (arith, c.take_in.ensures.len, c.loop-front-test.true);
    }

pub returns-clause-free : goal.returns-clause-free
returns-clause-free c = ap (if_young c.args.idle c.args.now.0) (place_past c.args.places.now c.loop-front.front.len (omega (arith, c.loop-front-test.false)))
