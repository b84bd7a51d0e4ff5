use Rattle.world.proofs.Through.{ThroughSoFar}
use Rattle.world.proofs.sender.put_through.Given as goal

abbrev pub invariant-loop-i : goal.invariant-loop-i
invariant-loop-i l = ThroughSoFar (record { moment = l.sender.now.0; nat = l.from.nat; inside = l.from.inside; fails = l.sender.fails }) l.fn.wire l.wire l.fn.nats l.nats l.step.sends l.i l.marks
