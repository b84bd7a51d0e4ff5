-- The front of a NAT's table: its first places, while these are known to hold datagrams.
use Rattle.std.specs.Prelude.{◌≡◌, ℕ, ◌+◌, ◌<◌, ◌≤◌, true, List, is_some, Option, Some}
use Rattle.td_base.specs.declared.endpoint.Ep.{Ep}
use Rattle.nat_kinds.specs.declared.limits.TheConstants.{FIRST_PORT}
use Rattle.nat_kinds.specs.declared.front.Front.{Front}
use Rattle.nat_kinds.specs.declared.kind.NatKind.{NatKind}
use Rattle.nat_kinds.specs.declared.outgoing.Outward.{Outward}
use Rattle.nat_kinds.specs.Mappings.{has_key}
use Rattle.nat_kinds.specs.Places.{place_at, if_young}

-- each of its places holds a datagram that wasn't sent before its moment
abbrev pub IsFront : List (Option Outward) → Front → Type 0
IsFront places front = (i : ℕ) → i < front.len
    → (e : Outward) × (place_at places (FIRST_PORT + i) ≡ Some e) × (front.since.0 ≤ e.moment.0)

-- each of its places holds one that is less than idle old at n
abbrev pub IsLiveFront : ℕ → ℕ → List (Option Outward) → Front → Type 0
IsLiveFront idle n places front = (i : ℕ) → i < front.len → is_some (if_young idle n (place_at places (FIRST_PORT + i))) ≡ true

-- none of its places but this port's holds a datagram of this key
abbrev pub HasKeyOnlyAt : NatKind → Ep → Ep → List (Option Outward) → Front → ℕ → Type 0
HasKeyOnlyAt kind inside dst places front port = (i : ℕ) (e : Outward) → i < front.len → place_at places (FIRST_PORT + i) ≡ Some e
    → has_key kind inside dst e ≡ true → FIRST_PORT + i ≡ port
