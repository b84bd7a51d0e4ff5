-- What a call does to something that may be told: what is told after the call was told before it.
use Rattle.std.specs.Prelude.{◌≡◌, ◌+◌, ℕ, ⊤, List, [], ◌∷◌, ◌++◌, Option, Some, None}

-- what is told after a call was told before it, and then the fact holds of the two
abbrev pub Moves : {A : Type 0} → Option A → Option A → (A → A → Type 0) → Type 0
Moves old None fact = ⊤
Moves None (Some after) fact = ⊥
Moves (Some before) (Some after) fact = fact before after

-- it stays as it was
abbrev pub Stays : {A : Type 0} → Option A → Option A → Type 0
Stays old new = Moves old new (λ before after. after ≡ before)

-- a list grows by these at its end
abbrev pub GainsAll : {A : Type 0} → Option (List A) → Option (List A) → List A → Type 0
GainsAll old new xs = Moves old new (λ before after. after ≡ before ++ xs)

-- a list grows by one at its end
abbrev pub Gains : {A : Type 0} → Option (List A) → Option (List A) → A → Type 0
Gains old new x = GainsAll old new (x ∷ [])

-- a number rises by this one
abbrev pub RisesBy : Option ℕ → Option ℕ → ℕ → Type 0
RisesBy old new n = Moves old new (λ before after. after ≡ before + n)
