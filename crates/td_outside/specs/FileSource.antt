-- The source over files, as its callers see it.
use Rattle.std.specs.Prelude.{ℕ, Bool}
use Rattle.td_outside.specs.Causes.{raised_if}

-- whether a file is open, and how often a call failed
pub record FileState : Type 0 where
  pub is_open : Bool
  pub faults : ℕ

-- the source after a call that failed or not, with a file open or not
abbrev pub file_after : FileState → Bool → Bool → FileState
file_after file is_open failed = record { is_open = is_open; faults = raised_if failed file.faults }
