-- How much can be left of an event.
use Rattle.std.specs.Prelude.{◌≡◌, ◌^◌}
use Rattle.legal.specs.declared.left.TheConstants.{LEFT_MAX}

-- the bound of what is left is the one that the pages say
pub record LeftNumbers : Type 0 where
  -- our choice
  pub left_most : LEFT_MAX ≡ 2 ^ 45
