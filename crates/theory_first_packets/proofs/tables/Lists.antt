-- What one more entry leaves of a list, and what is so of each of its elements.
use Rattle.theory_first_packets.proofs.Words.{AllByRecursion, List, Option, Some, [], ap, arith, false≢true, is_some, length, nat_tests, refl, slice_get, suc, true, zero, ℕ, ◌++◌, ◌==◌, ◌∷◌, ◌≡◌}

pub same_number : (n : ℕ) → (n == n) ≡ true
same_number n = grind (arith, nat_tests)

-- what is on the wire stays there
pub still_there : {A : Type 0} → (xs ys : List A) (i : ℕ) (x : A) → slice_get xs i ≡ Some x → slice_get (xs ++ ys) i ≡ Some x
still_there {A = A} [] ys i x e = absurd (false≢true (ap (λ (o : Option A). is_some o) e))
still_there (y ∷ xs) ys zero x e = e
still_there (y ∷ xs) ys (suc i) x e = still_there xs ys i x e

-- the last of a list
pub last_there : {A : Type 0} → (xs : List A) (y : A) → slice_get (xs ++ y ∷ []) (length xs) ≡ Some y
last_there [] y = refl
last_there (x ∷ xs) y = last_there xs y

pub one_longer : {A : Type 0} → (xs : List A) (y : A) → length (xs ++ y ∷ []) ≡ suc (length xs)
one_longer [] y = refl
one_longer (x ∷ xs) y = ap suc (one_longer xs y)

-- what is so of each follows of each
pub each_so : {A : Type 0} {P Q : A → Type 0} → ((x : A) → P x → Q x) → (xs : List A) → AllByRecursion P xs → AllByRecursion Q xs
each_so so [] all = tt
each_so so (x ∷ xs) all = (so x all.0, each_so so xs all.1)

pub each_pair : {A : Type 0} {P Q R : A → Type 0} → ((x : A) → P x → Q x → R x) → (xs : List A) → AllByRecursion P xs → AllByRecursion Q xs
    → AllByRecursion R xs
each_pair so [] all every = tt
each_pair so (x ∷ xs) all every = (so x all.0 every.0, each_pair so xs all.1 every.1)
