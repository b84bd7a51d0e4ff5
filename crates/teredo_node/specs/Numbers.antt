-- How much a node does at one call at most.
use Rattle.std.specs.Prelude.{◌≡◌}
use Rattle.teredo_node.specs.declared.late.TheConstants.{LATE_LEN_MAX}
use Rattle.teredo_node.specs.declared.step.TheConstants.{SENDS_MAX, LATE_MAX}

-- the numbers are those of the rules
pub record StepNumbers : Type 0 where
  -- as many as wait for a peer
  pub sends : SENDS_MAX ≡ 8
  -- as many as are held for a peer
  pub late : LATE_MAX ≡ 4
  -- RFC 4380, section 5.1.2: the MTU of a Teredo link
  pub late_bytes : LATE_LEN_MAX ≡ 1280
