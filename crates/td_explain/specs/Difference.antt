-- Where two texts differ first.
use Rattle.std.specs.Prelude.{ℕ, suc, ◌==◌, List, ◌∷◌, if◌then◌else◌}

-- how many bytes the fronts of both have that are the same
abbrev pub difference : List ℕ → List ℕ → ℕ
difference (x ∷ xs) (y ∷ ys) = if x == y then suc (difference xs ys) else 0
difference _ _ = 0
