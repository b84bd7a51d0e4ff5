use Rattle.load_keeper.proofs.Loops.{entries_more}
use Rattle.load_keeper.proofs.load_keeper.put_entries.Goals as goal

pub loop-i-preserved : goal.loop-i-preserved
loop-i-preserved c =
    let more = rw c.load_sent.ensures at c.in_ok-put_entry.ensures in
    entries_more _ _ _ _ _ _ _ c.loop-i-test.true c.loop-i.invariant more
