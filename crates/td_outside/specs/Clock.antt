-- The state of a clock, as far as its callers see it.
use Rattle.std.specs.Prelude.{ℕ, List, Option}

-- the last moment that the clock gave, and all that it gave where it tells them
pub record ClockState : Type 0 where
  pub last : ℕ  -- the moment that it gave last, 0 before the first call
  pub gave : Option (List ℕ)  -- the moments that it gave, the oldest first, where it tells them
