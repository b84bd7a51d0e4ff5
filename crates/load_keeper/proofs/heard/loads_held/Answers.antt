use Rattle.load_keeper.proofs.Words.{KeptLoad, load_that_is_held}
use Rattle.load_keeper.proofs.Loops.{picked_more}
use Rattle.load_keeper.proofs.heard.loads_held.Goals as goal

pub loop-one-preserved : goal.loop-one-preserved
loop-one-preserved c = picked_more (λ (k : KeptLoad). load_that_is_held k.from k.load) c.args.who _ _ _ _ _ c.loop-one-test.true c.loop-one.invariant c.in_ok-put_held.ensures
