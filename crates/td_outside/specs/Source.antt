-- The state of a source, as far as its callers see it.
use Rattle.std.specs.Prelude.{ℕ, List, Option}

-- what it tells of its content and of what it was asked, where it does, and how often a call has failed
pub record SourceState : Type 0 where
  pub stands_for : List ℕ → Option (List ℕ)  -- the bytes of each name
  pub left : Option (List ℕ)  -- the bytes that are left of what is open
  pub openings : Option (List (List ℕ))  -- the names that it was asked to open, the oldest first
  pub taken : Option ℕ  -- how many bytes its reads gave in all
  pub faults : ℕ  -- it stops at the end of u64
