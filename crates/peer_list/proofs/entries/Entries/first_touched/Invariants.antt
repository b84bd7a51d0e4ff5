use Rattle.peer_list.proofs.Words.{Contains, IsSince, Listing, Some, get, ℕ, ◌≡◌, ◌≤◌, ◌⊎◌}
use Rattle.peer_list.proofs.entries.Entries.first_touched.Given as goal

-- each entry was touched since then, or is among those that are left
abbrev pub invariant-loop-listing : goal.invariant-loop-listing
invariant-loop-listing l =
    (goal.iterator-loop-listing).can_next l.listing-iterator ×
    (goal.iterator-loop-listing).is_finite l.listing-iterator ×
    (l.first.0 ≤ l.fn.now.0) ×
    ((key : ℕ) (x : Listing) → get l.self.slab key ≡ Some x → IsSince l.first.0 x.peer.touched ⊎ Contains l.listing-iterator (key, x))
