use Rattle.td_explain.proofs.Words.{link_at, vec_len, ℕ, ◌+◌, ◌-◌, ◌≡◌}
use Rattle.td_explain.proofs.links.Links.reach.Given as goal

abbrev pub invariant-room : goal.invariant-room
invariant-room l = (other : ℕ) → link_at l.self other ≡ link_at l.fn.self other

abbrev pub decreases-room : goal.decreases-room
decreases-room l = (l.place + 1) - vec_len l.self.next
