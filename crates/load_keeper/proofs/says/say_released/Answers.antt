use Rattle.load_keeper.proofs.Loops.{released_more}
use Rattle.load_keeper.proofs.says.say_released.Goals as goal

pub loop-i-preserved : goal.loop-i-preserved
loop-i-preserved c =
    let more = rw c.mark_at.ensures at c.in_ok-say_goes.ensures in
    released_more _ _ _ _ _ _ _ c.loop-i-test.true c.loop-i.invariant more
