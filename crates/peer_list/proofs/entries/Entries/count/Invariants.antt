use Rattle.peer_list.proofs.Words.{AllByRecursion, Leads, filter, is_listed_at, length, listings_in, listings_of, ◌+◌, ◌≡◌, ◌≤◌}
use Rattle.peer_list.proofs.entries.Entries.count.Given as goal

-- the listed ones so far, and those of what is left, are all
abbrev pub invariant-loop-key : goal.invariant-loop-key
invariant-loop-key l =
    (goal.iterator-loop-key).can_next l.key-iterator ×
    (goal.iterator-loop-key).is_finite l.key-iterator ×
    (l.count + length l.key-iterator ≤ length l.self.index.entries) ×
    (l.count + length (filter (is_listed_at l.now.0) (listings_in l.self.slab l.key-iterator)) ≡ length (filter (is_listed_at l.now.0) (listings_of l.self))) ×
    AllByRecursion (Leads l.self.slab) l.key-iterator
