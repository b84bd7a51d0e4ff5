use Rattle.peer_list.proofs.Words.{get_or, length, ℕ, ◌-◌, ◌<◌, ◌≡◌, ◌≤◌}
use Rattle.peer_list.proofs.order.place_of.Given as goal

-- the key stands nowhere before
abbrev pub invariant-loop-place : goal.invariant-loop-place
invariant-loop-place l = (l.place < length l.order) × ((i : ℕ) → i < length l.order → get_or l.order i 0 ≡ l.fn.key → l.place ≤ i)

abbrev pub decreases-loop-place : goal.decreases-loop-place
decreases-loop-place l = length l.order - l.place
