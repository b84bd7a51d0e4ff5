-- What stands at the end of a list, and how long a list is.
use Rattle.full_tables.proofs.Words.{List, [], ap, arith, length, refl, slice_get, subst, suc, ℕ, ◌++◌, ◌+◌, ◌∙◌, ◌∷◌, ◌≡◌}

pub nothing_more : {A : Type 0} → (xs : List A) → xs ++ [] ≡ xs
nothing_more [] = refl
nothing_more {A = A} (x ∷ xs) = ap (λ (z : List A). x ∷ z) (nothing_more xs)

behind : {A : Type 0} → (xs ys : List A) (i : ℕ) → slice_get (xs ++ ys) (length xs + i) ≡ slice_get ys i
behind {A = A} [] ys i = let same : 0 + i ≡ i = omega arith in ap (slice_get ys) same
behind {A = A} (x ∷ xs) ys i =
    let same : suc (length xs) + i ≡ suc (length xs + i) = omega arith in
    ap (slice_get (x ∷ xs ++ ys)) same ∙ behind xs ys i

-- what stands behind so many
pub at_end : {A : Type 0} → (xs ys : List A) (i n : ℕ) → length xs ≡ n → slice_get (xs ++ ys) (n + i) ≡ slice_get ys i
at_end {A = A} xs ys i n is = subst (λ (m : ℕ). slice_get (xs ++ ys) (m + i) ≡ slice_get ys i) is (behind xs ys i)

pub both_long : {A : Type 0} → (xs ys : List A) → length (xs ++ ys) ≡ length xs + length ys
both_long [] ys = omega arith
both_long (x ∷ xs) ys = let rest = both_long xs ys in omega (arith, rest)
