-- When a call outside may answer that it failed.
use Rattle.std.specs.Prelude.{ℕ, Bool, if◌then◌else◌, ◌+◌, ◌-◌, ◌^◌, ◌≤◌, ◌≡◌, min, Result, OnErr, OnOk}

-- where each count stops
abbrev pub count_end : ℕ
count_end = 2 ^ 64 - 1

-- one more, up to where it stops
abbrev pub raised : ℕ → ℕ
raised n = min (n + 1) count_end

-- one more where the call failed
abbrev pub raised_if : Bool → ℕ → ℕ
raised_if failed n = if failed then raised n else n

-- the count is greater than before, or stands where it stops
abbrev pub Rose : ℕ → ℕ → Type 0
Rose before now = raised before ≤ now

-- the count rises where a failure is answered, and stays where none is
pub record HasCause {T E : Type 0} (before now : ℕ) (result : Result T E) : Type 0 where
  pub later : before ≤ now
  pub failed : OnErr result (Rose before now)
  pub kept : OnOk result (now ≡ before)
