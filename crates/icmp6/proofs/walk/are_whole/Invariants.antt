use Rattle.icmp6.proofs.Words.{length, ◌-◌, ◌≤◌}
use Rattle.icmp6.proofs.WalkSteps.{StillWalks}
use Rattle.icmp6.proofs.walk.are_whole.Given as goal

abbrev pub invariant-loop-place : goal.invariant-loop-place
invariant-loop-place l = (l.place ≤ length l.bytes) × StillWalks l.fn.start l.place l.bytes

abbrev pub decreases-loop-place : goal.decreases-loop-place
decreases-loop-place l = length l.bytes - l.place
