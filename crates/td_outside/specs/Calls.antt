-- The calls of a form in memory.
use Rattle.std.specs.Prelude.{ℕ, List, Bool, nat_eq}
use Rattle.std.specs.List.{list_any}
use Rattle.td_outside.specs.Causes.{raised, raised_if}

-- the numbers of the calls that fail, counted from 0; how many were made, and how many failed
pub record Calls : Type 0 where
  pub listed : List ℕ
  pub made : ℕ
  pub faults : ℕ

-- the next call is a listed one
abbrev pub fails_next : Calls → Bool
fails_next calls = list_any (λ n. nat_eq n calls.made) calls.listed

-- the calls after one more, which failed or not
abbrev pub after_call : Calls → Bool → Calls
after_call calls failed = record calls {
  made = raised calls.made;
  faults = raised_if failed calls.faults;
}
