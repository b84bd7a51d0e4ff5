-- The limits of a NAT.
use Rattle.std.specs.Prelude.{◌≡◌}
use Rattle.nat_kinds.specs.declared.limits.TheConstants.{FIRST_PORT, MAPPINGS_MAX}

-- the limits of a NAT are those of `docs/DEFINITIONS.md`
pub record NatNumbers : Type 0 where
  -- the first port that is given out
  pub port : FIRST_PORT ≡ 1024
  -- the most mappings that live at a time
  pub mappings_most : MAPPINGS_MAX ≡ 4096
