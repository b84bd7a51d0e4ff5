-- What happened to a NAT, and which of its outward datagrams still count.
-- RFC 3489, section 5, has mappings that live on; that outward datagrams alone keep one alive, and for how long, is this project's choice.
use Rattle.std.specs.Prelude.{ℕ, ◌-◌, Bool, not, nat_lt, List, [], ◌∷◌, filter}
use Rattle.td_base.specs.Ep.{same_ep}
use Rattle.td_base.specs.declared.endpoint.Ep.{Ep}
use Rattle.nat_kinds.specs.declared.outgoing.Outward.{Outward}

-- *history of a NAT*: the datagrams that went out through it, with the port that each was given, and what made it
-- forget, the latest first.
-- what happened to a NAT: a datagram went out, an inside endpoint was forgotten, all was lost. A history is a list of these, the latest first
pub data NatEntry : Type 0 where
  Out : Outward → NatEntry
  Forget : Ep → NatEntry
  Restart : NatEntry

-- those of other inside endpoints
abbrev pub without : Ep → List Outward → List Outward
without who outs = filter (λ e. not (same_ep e.inside who)) outs

-- the outward datagrams after which came no restart, and no forget of their inside endpoint
abbrev pub kept : List NatEntry → List Outward
kept [] = []
kept (Out e ∷ h) = e ∷ kept h
kept (Forget who ∷ h) = without who (kept h)
kept (Restart ∷ h) = []

-- it is less than idle old at n
abbrev pub is_young : ℕ → ℕ → Outward → Bool
is_young idle n e = nat_lt (n - e.moment.0) idle

-- those that are less than idle old at n
abbrev pub young : ℕ → ℕ → List Outward → List Outward
young idle n outs = filter (is_young idle n) outs

-- *counts*: a datagram that went out counts at a moment where it is younger than the idle time, and neither a restart
-- nor a `forget` of its inside endpoint came after it.
-- the outward datagrams that count at n
abbrev pub counting : ℕ → ℕ → List NatEntry → List Outward
counting idle n h = young idle n (kept h)
