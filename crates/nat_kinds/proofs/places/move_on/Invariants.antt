use Rattle.nat_kinds.proofs.Words.{IsFront, IsLiveFront, length, ◌-◌, ◌≤◌}
use Rattle.nat_kinds.proofs.places.move_on.Given as goal

-- the front is one of live places
abbrev pub invariant-loop-front : goal.invariant-loop-front
invariant-loop-front l = record {
  front : IsFront l.places l.front;
  live : IsLiveFront l.idle l.now.0 l.places l.front;
  since : l.front.since.0 ≤ l.initial.front.since.0;
  short : l.front.len ≤ length l.places;
}

abbrev pub decreases-loop-front : goal.decreases-loop-front
decreases-loop-front l = length l.places - l.front.len
