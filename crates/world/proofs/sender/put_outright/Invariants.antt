use Rattle.world.proofs.Words.{source_at}
use Rattle.world.proofs.Outright.{OutrightSoFar}
use Rattle.world.proofs.sender.put_outright.Given as goal

abbrev pub invariant-loop-i : goal.invariant-loop-i
invariant-loop-i l = OutrightSoFar l.fn.wire l.wire (record { own = source_at l.from.primary l.from.secondary; fails = l.fails }) l.step.sends l.i l.marks
