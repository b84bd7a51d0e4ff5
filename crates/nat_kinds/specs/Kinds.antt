-- Two of the four kinds. RFC 3489, section 5.
use Rattle.std.specs.Prelude.{Bool, true, false}
use Rattle.nat_kinds.specs.declared.kind.NatKind.{NatKind}
use Rattle.nat_kinds.specs.declared.kind.NatKind.TheVariants.{Cone, Symmetric}

-- it gives each destination a port of its own
abbrev pub is_symmetric : NatKind → Bool
is_symmetric Symmetric = true
is_symmetric _ = false

-- it lets everybody in
abbrev pub is_cone_kind : NatKind → Bool
is_cone_kind Cone = true
is_cone_kind _ = false
