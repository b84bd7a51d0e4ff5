-- The way out rises: each NAT on it has a higher number than the one before. So what a datagram has passed is at no NAT that it passes later.
use Rattle.std.specs.Prelude.{◌≡◌, ◌≤◌, ℕ, List, [], ◌∷◌, Option, Some, None, Ok}
use Rattle.nat_kinds.specs.declared.outgoing.Outward.{Outward}
use Rattle.nat_kinds.specs.History.{NatEntry, Out}
use Rattle.nat_kinds.specs.Answer.{nat_answer}
use Rattle.topology.specs.Rows.{TopologyState}
use Rattle.topology.specs.Chains.{NatPasts, Passing, nat_set_up, outs_at}

-- none of these passed NAT k or one after it
abbrev pub AreBefore : List Passing → ℕ → Type 0
AreBefore passed k = (j : ℕ) → k ≤ j → outs_at j passed ≡ []

-- a datagram that went out, if there is one
abbrev pub out_of : Option Outward → List NatEntry
out_of None = []
out_of (Some e) = Out e ∷ []

-- the history of NAT k lets the datagram leave from its port, at this moment
abbrev pub LeavesFromPort : TopologyState → NatPasts → ℕ → ℕ → Outward → Type 0
LeavesFromPort t h m k e = (e.moment.0 ≡ m) × (nat_answer (nat_set_up t k) (h k) m e.inside e.dst ≡ Ok e.port)
