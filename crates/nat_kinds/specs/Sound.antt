-- What holds of the outward datagrams that a NAT keeps.
use Rattle.std.specs.Prelude.{◌≡◌, ◌+◌, ◌<◌, ◌≤◌, ◌==◌, List, [], ◌∷◌}
use Rattle.std.specs.List.{AllByRecursion}
use Rattle.nat_kinds.specs.declared.limits.TheConstants.{FIRST_PORT, MAPPINGS_MAX}
use Rattle.nat_kinds.specs.declared.kind.NatKind.{NatKind}
use Rattle.nat_kinds.specs.declared.outgoing.Outward.{Outward}
use Rattle.nat_kinds.specs.Mappings.{has_key}

-- it has the port of each of these that has its key, and another than each that has another key
abbrev pub AgreesWith : NatKind → Outward → List Outward → Type 0
AgreesWith kind e outs = AllByRecursion (λ o. has_key kind e.inside e.dst o ≡ (e.port == o.port)) outs

-- the same key and the same port go together
abbrev pub Agree : NatKind → List Outward → Type 0
Agree kind [] = Unit {0}
Agree kind (e ∷ outs) = AgreesWith kind e outs × Agree kind outs

-- each port is one of the MAPPINGS_MAX ports from FIRST_PORT on
abbrev pub InRange : List Outward → Type 0
InRange outs = AllByRecursion (λ e. (FIRST_PORT ≤ e.port) × (e.port < FIRST_PORT + MAPPINGS_MAX)) outs

-- what is kept agrees, and its ports are in their range
pub record Sound (kind : NatKind) (outs : List Outward) : Type 0 where
  pub agree : Agree kind outs
  pub in_range : InRange outs
