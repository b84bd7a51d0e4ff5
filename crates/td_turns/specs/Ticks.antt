-- What is due of an endpoint at a moment is ticked, one thing after another, and each tick's sends are attempted.
use Rattle.std.specs.Prelude.{◌≡◌, ◌<◌, ◌+◌, ℕ, not, min, List, [], ◌∷◌, ◌++◌, Bool, length, count_by, Option, Some, None}
use Rattle.td_outside.specs.Causes.{count_end}
use Rattle.td_outside.specs.Link.{Attempt, Told}
use Rattle.teredo_node.specs.Step.{Step}
use Rattle.td_turns.specs.Turn.{Carries, Attempts, attempts_of}

-- one tick: what was done, and whether each of its sends was sent
pub record Ticked : Type 0 where
  pub step : Step
  pub answers : List Bool

-- a tick of what was due, and the attempts of its sends: ticks and owing are the endpoint's at the moment
pub record TicksOnce {S : Type 0} (ticks : S → Step → S → Type 0) (owing : S → ℕ) (old new : S) (link link' : Told) (step : Step) (failed : ℕ) : Type 0 where
  pub ticked : ticks old step new
  pub due : 0 < owing old
  pub less : owing new < owing old
  pub sends : Attempts step.sends link link' failed

-- nothing was due, and nothing was done
pub record NothingDue {S : Type 0} (owing : S → ℕ) (old new : S) (link link' : Told) (step step' : Step) : Type 0 where
  pub none : owing old ≡ 0
  pub state : new ≡ old
  pub told : Carries link link' [] []
  pub filled : step' ≡ step

-- a tick or none, by the answer: which attempts failed, where there was one
abbrev pub TicksIfDue : {S : Type 0} → (S → Step → S → Type 0) → (S → ℕ) → S → S → Told → Told → Step → Step → Option ℕ → Type 0
TicksIfDue ticks owing old new link link' step step' None = NothingDue owing old new link link' step step'
TicksIfDue ticks owing old new link link' step step' (Some failed) = TicksOnce ticks owing old new link link' step' failed

-- an endpoint's states over ticks of what was due, the latest first
abbrev pub GoesBy : {S : Type 0} → (S → Step → S → Type 0) → (S → ℕ) → S → List Ticked → S → Type 0
GoesBy ticks owing old [] new = new ≡ old
GoesBy {S} ticks owing old (t ∷ ts) new = (mid : S) × GoesBy ticks owing old ts mid × ticks mid t.step new
    × (0 < owing mid) × (length t.answers ≡ length t.step.sends)

-- what was to be sent in the ticks, the oldest first
abbrev pub made_by : List Ticked → List Attempt
made_by [] = []
made_by (t ∷ ts) = made_by ts ++ attempts_of t.step.sends t.answers

-- how many of those attempts failed
abbrev pub failed_by : List Ticked → ℕ
failed_by [] = 0
failed_by (t ∷ ts) = failed_by ts + count_by not t.answers

-- the latest tick's step, or the one before the first
abbrev pub last_step : Step → List Ticked → Step
last_step step [] = step
last_step step (t ∷ ts) = t.step

-- what was due was ticked, until nothing was
pub record TicksThrough {S : Type 0} (ticks : S → Step → S → Type 0) (owing : S → ℕ) (old new : S) (link link' : Told)
    (step step' : Step) (failed : ℕ) : Type 0 where
  pub ticked : List Ticked
  pub states : GoesBy ticks owing old ticked new
  pub none : owing new ≡ 0
  pub told : Carries link link' [] (made_by ticked)
  pub filled : step' ≡ last_step step ticked
  pub failures : failed ≡ min (failed_by ticked) count_end
