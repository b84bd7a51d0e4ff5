-- The clock of the tests.
use Rattle.std.specs.Prelude.{◌≤◌, ◌<◌, ℕ, ⊤, List, [], ◌∷◌, ◌++◌, Option, Some, None, nat_lt, if◌then◌else◌}
use Rattle.std.specs.Option.{option_and_then}
use Rattle.td_base.specs.declared.millis.Millis.{Millis}
use Rattle.td_base.specs.declared.millis.TheConstants.{CLOCK_END_MS}
use Rattle.td_outside.specs.Causes.{raised, count_end}

-- moments that a clock may give: each below its end, and none below the one before it
abbrev pub IsTimetable : ℕ → List Millis → Type 0
IsTimetable last [] = ⊤
IsTimetable last (m ∷ ms) = (last ≤ m.0) × (m.0 < CLOCK_END_MS) × IsTimetable m.0 ms

-- the moment that was given last, and those still to come, of which the last one stays; how many calls were made, which
-- stops at the end of u64, and all moments that they gave
pub record Timetable : Type 0 where
  pub last : ℕ
  pub coming : List Millis
  pub made : ℕ
  pub gave : Option (List ℕ)

-- the moments that were given, told as long as the calls can be counted
abbrev pub told_given : ℕ → List ℕ → Option (List ℕ)
told_given made gave = if nat_lt made count_end then Some gave else None

-- the next moment
abbrev pub moment_of : List Millis → Millis
moment_of [] = record { 0 = 0 }
moment_of (m ∷ ms) = m

-- those still to come after a call
abbrev pub after_moment : List Millis → List Millis
after_moment [] = []
after_moment (m ∷ []) = m ∷ []
after_moment (m ∷ n ∷ ms) = n ∷ ms

-- the clock after a call
abbrev pub clock_after : Timetable → Timetable
clock_after clock = record {
  last = (moment_of clock.coming).0;
  coming = after_moment clock.coming;
  made = raised clock.made;
  gave = option_and_then (λ gave. told_given (raised clock.made) (gave ++ (moment_of clock.coming).0 ∷ [])) clock.gave;
}
