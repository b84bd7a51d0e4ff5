use Rattle.peer_list.proofs.OrderLemmas.{stands_behind}
use Rattle.peer_list.proofs.order.place_of.Goals as goal

pub loop-place-preserved : goal.loop-place-preserved
loop-place-preserved c = stands_behind c.args.key c.loop-place.place c.args.order.now c.requires.once c.loop-place.invariant.1 c.loop-place-test.true
