use Rattle.nat_kinds.proofs.Words.{FIRST_PORT, length, place_at, unless_of, ℕ, ◌+◌, ◌-◌, ◌<◌, ◌≡◌, ◌≤◌}
use Rattle.nat_kinds.proofs.places.forget.Given as goal

-- the places so far are taken out, and the others are as they were
abbrev pub invariant-loop-i : goal.invariant-loop-i
invariant-loop-i l = record {
  len : length l.places.items ≡ length l.initial.places.items;
  so_far : (p : ℕ) → p < FIRST_PORT + l.i → place_at l.places.items p ≡ unless_of l.inside (place_at l.initial.places.items p);
  rest : (p : ℕ) → FIRST_PORT + l.i ≤ p → place_at l.places.items p ≡ place_at l.initial.places.items p;
}

abbrev pub decreases-loop-i : goal.decreases-loop-i
decreases-loop-i l = length l.places.items - l.i
