-- Mappings: which datagrams share one, and the ports that mappings hold. RFC 3489, section 5.
-- A mapping is the latest outward datagram of its key that counts.
use Rattle.std.specs.Prelude.{◌≡◌, ℕ, zero, suc, ◌+◌, ◌<◌, ◌≤◌, Bool, true, false, ◌&&◌, not, ◌==◌, if◌then◌else◌, List}
use Rattle.std.specs.Prelude.{[], ◌∷◌, length, filter, find, Option, Some, None}
use Rattle.std.specs.List.{list_any}
use Rattle.td_base.specs.Ep.{same_ep}
use Rattle.td_base.specs.declared.endpoint.Ep.{Ep}
use Rattle.nat_kinds.specs.declared.limits.TheConstants.{FIRST_PORT}
use Rattle.nat_kinds.specs.declared.kind.NatKind.{NatKind}
use Rattle.nat_kinds.specs.declared.kind.NatKind.TheVariants.{Cone, Restricted, Port, Symmetric}
use Rattle.nat_kinds.specs.declared.outgoing.Outward.{Outward}

-- *key*: what a mapping is for: the inside endpoint; of a symmetric NAT, the inside endpoint and the destination.
-- it has the key of a datagram from inside to dst: the inside endpoint, and for a symmetric NAT the destination too
abbrev pub has_key : NatKind → Ep → Ep → Outward → Bool
has_key Cone inside dst e = same_ep e.inside inside
has_key Restricted inside dst e = same_ep e.inside inside
has_key Port inside dst e = same_ep e.inside inside
has_key Symmetric inside dst e = same_ep e.inside inside && same_ep e.dst dst

-- the latest of each key
abbrev pub latest : NatKind → List Outward → List Outward
latest kind [] = []
latest kind (e ∷ outs) = e ∷ filter (λ o. not (has_key kind e.inside e.dst o)) (latest kind outs)

-- its port
abbrev pub port_in : Option Outward → Option ℕ
port_in None = None
port_in (Some e) = Some e.port

-- the port that the key of a datagram from inside to dst holds, where these mappings are live
abbrev pub live_port : NatKind → Ep → Ep → List Outward → Option ℕ
live_port kind inside dst live = port_in (find (has_key kind inside dst) live)

-- some mapping holds the port
abbrev pub is_used : List Outward → ℕ → Bool
is_used live port = list_any (λ e. port == e.port) live

-- the lowest port from FIRST_PORT on that no mapping holds
pub record IsLowestFree (live : List Outward) (port : ℕ) : Type 0 where
  pub from_first : FIRST_PORT ≤ port
  pub free : is_used live port ≡ false
  pub lowest : (q : ℕ) → FIRST_PORT ≤ q → q < port → is_used live q ≡ true

-- the first of n + 1 ports that no mapping holds, the last of them where all others are held
abbrev pub first_free : List Outward → ℕ → ℕ → ℕ
first_free live port zero = port
first_free live port (suc n) = if is_used live port then first_free live (port + 1) n else port

-- the same port, computed: so many mappings can't hold one port more
abbrev pub lowest_free : List Outward → ℕ
lowest_free live = first_free live FIRST_PORT (length live)
