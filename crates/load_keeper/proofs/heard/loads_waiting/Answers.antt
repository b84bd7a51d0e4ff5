use Rattle.load_keeper.proofs.Words.{KeptLoad, load_that_waits}
use Rattle.load_keeper.proofs.Loops.{picked_more}
use Rattle.load_keeper.proofs.heard.loads_waiting.Goals as goal

pub loop-one-preserved : goal.loop-one-preserved
loop-one-preserved c = picked_more (λ (k : KeptLoad). load_that_waits k.from k.load) c.args.who _ _ _ _ _ c.loop-one-test.true c.loop-one.invariant c.in_ok-put_waiting.ensures
