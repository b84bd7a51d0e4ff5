-- The state of a sink, as far as its callers see it.
use Rattle.std.specs.Prelude.{ℕ, List, Option}

-- what it tells of its content and of what it was asked, where it does, and how often a call has failed
pub record SinkState : Type 0 where
  pub holds : Option (List ℕ)  -- its bytes
  pub pieces : Option (List (List ℕ))  -- the pieces that `write` was handed, the oldest first
  pub faults : ℕ  -- it stops at the end of u64
