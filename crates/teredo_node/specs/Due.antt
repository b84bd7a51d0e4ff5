-- What is due of a node at a moment, and what a tick does about it.
use Rattle.std.specs.Prelude.{◌≡◌, ◌≤◌, ◌<◌, ℕ, max, Option, Some, None}
use Rattle.td_base.specs.declared.millis.Millis.{Millis}
use Rattle.teredo_node.specs.declared.fate.Fate.TheVariants.{Idle}
use Rattle.teredo_node.specs.Step.{Step, just}

-- the moment at which something is due, as it stands at `now`, where so much is due at each moment: nothing is before it,
-- and something is at it, or now where it is past
abbrev pub IsFirstDue : (ℕ → ℕ) → ℕ → Option Millis → Type 0
IsFirstDue owing now None = (n : ℕ) → now ≤ n → owing n ≡ 0
IsFirstDue owing now (Some at) = ((n : ℕ) → now ≤ n → n < at.0 → owing n ≡ 0) × (0 < owing (max now at.0))

-- a tick where nothing was due did nothing, and all is as before
abbrev pub Idles : ℕ → Type 0 → Step → Type 0
Idles owed as_before step = owed ≡ 0 → (step ≡ just Idle) × as_before

-- a tick where something was due did something, and less is due after it
abbrev pub Lessens : ℕ → ℕ → Step → Type 0
Lessens owed owing step = 0 < owed → (owing < owed) × (step.fate ≡ Idle → ⊥)
