use Rattle.load_keeper.proofs.Words.{None, drop, find, length, touches_peer, ◌≡◌, ◌≤◌}
use Rattle.load_keeper.proofs.touch.touch_place.Given as goal

abbrev pub invariant-touches : goal.invariant-touches
invariant-touches l = record {
  within : l.place ≤ length l.touches;
  none : find (touches_peer l.who) (drop l.place l.touches) ≡ None;
}

abbrev pub decreases-touches : goal.decreases-touches
decreases-touches l = l.place
