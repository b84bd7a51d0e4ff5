use Rattle.world.proofs.Words.{length, map, take, ◌≡◌}
use Rattle.world.proofs.record.put_lates.Given as goal

-- the lengths of those so far
abbrev pub invariant-loop-i : goal.invariant-loop-i
invariant-loop-i l = l.lates ≡ map length (take l.i l.step.late)
