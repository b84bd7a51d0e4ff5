-- How much a record says at most.
use Rattle.std.specs.Prelude.{◌≡◌}
use Rattle.history.specs.declared.mark_list.TheConstants.{MARKS_MAX}
use Rattle.history.specs.declared.late_list.TheConstants.{LATES_MAX}

-- a record has room for all that one step sends and hands over
pub record RecordNumbers : Type 0 where
  -- the sends of a step, which are eight at most, and the packet besides them
  pub marks_most : MARKS_MAX ≡ 9
  -- as many packets as are handed over late
  pub lates_most : LATES_MAX ≡ 4
