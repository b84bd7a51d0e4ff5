use Rattle.peer_list.proofs.Words.{AllByRecursion, HELD_MAX, Leads, Listing, WAITING_MAX, filter, is_listed_at, kept_count, length, listings_in, listings_of, sum_by, ◌*◌, ◌+◌, ◌≡◌, ◌≤◌}
use Rattle.peer_list.proofs.entries.Entries.waiting.Given as goal

-- the packets so far, and those of what is left, are all
abbrev pub invariant-loop-key : goal.invariant-loop-key
invariant-loop-key l =
    (goal.iterator-loop-key).can_next l.key-iterator ×
    (goal.iterator-loop-key).is_finite l.key-iterator ×
    (l.waiting + (WAITING_MAX + HELD_MAX) * length l.key-iterator ≤ (WAITING_MAX + HELD_MAX) * length l.self.index.entries) ×
    (l.waiting + sum_by (λ (x : Listing). kept_count x.peer) (filter (is_listed_at l.now.0) (listings_in l.self.slab l.key-iterator)) ≡ sum_by (λ (x : Listing). kept_count x.peer) (filter (is_listed_at l.now.0) (listings_of l.self))) ×
    AllByRecursion (Leads l.self.slab) l.key-iterator
