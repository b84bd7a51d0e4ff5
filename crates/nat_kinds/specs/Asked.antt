-- What a NAT keeps of whom its inside endpoints asked. RFC 3489, section 5.
use Rattle.std.specs.Prelude.{◌≡◌, ℕ, ◌+◌, ◌-◌, ◌*◌, ◌≤◌, Bool, true, false, ◌&&◌, nat_lt, if◌then◌else◌, List, [], ◌∷◌, map, Option, Some, None}
use Rattle.std.specs.List.{IsDistinct}
use Rattle.std.specs.Map.{lookup, keys_of}
use Rattle.td_base.specs.Ep.{same_ep}
use Rattle.td_base.specs.declared.endpoint.Ep.{Ep}
use Rattle.td_base.specs.declared.millis.Millis.{Millis}
use Rattle.nat_kinds.specs.declared.kind.NatKind.{NatKind}
use Rattle.nat_kinds.specs.declared.kind.NatKind.TheVariants.{Cone, Restricted, Port, Symmetric}
use Rattle.nat_kinds.specs.declared.outgoing.Outward.{Outward}
use Rattle.nat_kinds.specs.declared.way.Way.{Way}
use Rattle.nat_kinds.specs.History.{young}
use Rattle.nat_kinds.specs.Way.{same_way, asked_way}

-- when this was asked last
abbrev pub asked_at : List (Way × Millis) → Way → Option Millis
asked_at asked way = lookup (same_way way) asked

-- it was less than idle before n
abbrev pub is_recent : ℕ → ℕ → Option Millis → Bool
is_recent idle n None = false
is_recent idle n (Some m) = nat_lt (n - m.0) idle

-- only restricted and port restricted NATs look at what other datagrams than the mapping's latest asked
abbrev pub keeps_asked : NatKind → Bool
keeps_asked Cone = false
keeps_asked Restricted = true
keeps_asked Port = true
keeps_asked Symmetric = false

-- what was asked, with what one datagram more asks
abbrev pub asked_with : NatKind → Outward → List (Way × Millis) → List (Way × Millis)
asked_with kind e asked = (asked_way kind e.inside e.dst, e.moment) ∷ asked

-- a mapping lets a datagram from src in at n, where this was asked
abbrev pub passes : NatKind → ℕ → ℕ → List (Way × Millis) → Ep → Outward → Bool
passes Cone idle n asked src m = true
passes Restricted idle n asked src m = is_recent idle n (asked_at asked (asked_way Restricted m.inside src))
passes Port idle n asked src m = is_recent idle n (asked_at asked (asked_way Port m.inside src))
passes Symmetric idle n asked src m = same_ep m.dst src

-- the inside endpoint of a mapping that does
abbrev pub inside_by : NatKind → ℕ → ℕ → List (Way × Millis) → Ep → Option Outward → Option Ep
inside_by kind idle n asked src None = None
inside_by kind idle n asked src (Some m) = if passes kind idle n asked src m then Some m.inside else None

-- when it was asked last, after this datagram
abbrev pub asked_after : NatKind → Outward → Way → Option Millis → Option Millis
asked_after kind e way old = if keeps_asked kind && same_way (asked_way kind e.inside e.dst) way then Some e.moment else old

-- new is old with what the datagram asked
abbrev pub IsNoted : NatKind → List (Way × Millis) → List (Way × Millis) → Outward → Type 0
IsNoted kind old new e = (way : Way) → asked_at new way ≡ asked_after kind e way (asked_at old way)

-- HOW MUCH IS KEPT

-- each stands there once
abbrev pub IsOnce : List (Way × Millis) → Type 0
IsOnce asked = IsDistinct same_way (keys_of asked)

-- *recalled*: the datagrams of which a NAT may still keep whom they asked: those at most twice as old as the idle time;
-- of a cone and a symmetric NAT none.
-- the datagrams of which it may be kept at n whom they asked: none where the kind doesn't look, else those that are at most twice idle old
abbrev pub recalled : NatKind → ℕ → ℕ → List Outward → List Outward
recalled kind idle n outs = if keeps_asked kind then young (2 * idle + 1) n outs else []

-- whom these datagrams asked, and when
abbrev pub asked_by : NatKind → List Outward → List (Way × Millis)
asked_by kind outs = map (λ e. (asked_way kind e.inside e.dst, e.moment)) outs

-- each that is kept stands there once, with the moment of the latest of these datagrams that asked it
pub record Recalls (kind : NatKind) (outs : List Outward) (asked : List (Way × Millis)) : Type 0 where
  pub once : IsOnce asked
  pub latest : (way : Way) (m : Millis) → asked_at asked way ≡ Some m → asked_at (asked_by kind outs) way ≡ Some m

-- old ones were looked for less than idle before the moment, or at it, and each that is kept was asked less than idle before that, or later
pub record IsSwept (idle moment swept : ℕ) (asked : List (Way × Millis)) : Type 0 where
  pub past : swept ≤ moment
  pub lately : moment ≤ swept + idle
  pub kept : (way : Way) (m : Millis) → asked_at asked way ≡ Some m → swept ≤ m.0 + idle
