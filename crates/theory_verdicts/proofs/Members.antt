-- Elements of lists, by recursion.
use Rattle.theory_verdicts.proofs.Words.{AllByRecursion, Bool, Contains, List, [], ap, arith, cond, false, false≢true, filter, inl, inr, list_any, refl, subst, suc, sym, true, zero, ◌||◌, ◌∙◌, ◌∷◌, ◌≡◌, ◌⊎◌}

-- x is an element
abbrev pub Has : {A : Type 0} → List A → A → Type 0
Has [] x = ⊥
Has (y ∷ ys) x = (y ≡ x) ⊎ Has ys x

-- as std has it
pub has_of : {A : Type 0} (xs : List A) (x : A) → Contains xs x → Has xs x
has_of [] x c = absurd (let within = c.1 in omega (arith, within))
has_of (y ∷ ys) x (zero, within, at) = inl at
has_of (y ∷ ys) x (suc k, within, at) = inr (has_of ys x (k, omega (arith, within), at))

-- and back
pub contains_of : {A : Type 0} (xs : List A) (x : A) → Has xs x → Contains xs x
contains_of [] x h = absurd h
contains_of (y ∷ ys) x (inl same) = (0, omega arith, same)
contains_of (y ∷ ys) x (inr later) = behind (contains_of ys x later) where
  behind : Contains ys x → Contains (y ∷ ys) x
  behind k = (suc k.0, (let within = k.1 in omega (arith, within)), k.2)

-- what holds of each holds of one
pub all_has : {A : Type 0} (P : A → Type 0) (xs : List A) (x : A) → AllByRecursion P xs → Has xs x → P x
all_has P [] x a h = absurd h
all_has P (y ∷ ys) x a (inl same) = subst P same a.0
all_has P (y ∷ ys) x a (inr later) = all_has P ys x a.1 later

-- FILTERS

-- what passes stays
pub has_filtered : {A : Type 0} (p : A → Bool) (xs : List A) (x : A) → Has xs x → p x ≡ true → Has (filter p xs) x
has_filtered p [] x h e = absurd h
has_filtered p (y ∷ ys) x h e = by (p y) refl h (λ later. has_filtered p ys x later e) where
  by : (b : Bool) → p y ≡ b → Has (y ∷ ys) x → (Has ys x → Has (filter p ys) x) → Has (cond b (y ∷ filter p ys) (filter p ys)) x
  by true f (inl same) ih = inl same
  by true f (inr later) ih = inr (ih later)
  by false f (inl same) ih = absurd (false≢true (sym f ∙ ap p same ∙ e))
  by false f (inr later) ih = ih later

-- and what stays was there, and passes
pub filtered_has : {A : Type 0} (p : A → Bool) (xs : List A) (x : A) → Has (filter p xs) x → Has xs x × (p x ≡ true)
filtered_has p [] x h = absurd h
filtered_has p (y ∷ ys) x h = by (p y) refl h (filtered_has p ys x) where
  by : (b : Bool) → p y ≡ b → Has (cond b (y ∷ filter p ys) (filter p ys)) x → (Has (filter p ys) x → Has ys x × (p x ≡ true)) → Has (y ∷ ys) x × (p x ≡ true)
  by true f (inl same) ih = (inl same, ap p (sym same) ∙ f)
  by true f (inr later) ih = (inr (ih later).0, (ih later).1)
  by false f later ih = (inr (ih later).0, (ih later).1)

-- what passes is no element where none passes
pub none_has : {A : Type 0} (p : A → Bool) (xs : List A) (x : A) → list_any p xs ≡ false → Has xs x → p x ≡ true → ⊥
none_has p [] x none h e = h
none_has p (y ∷ ys) x none h e = by (p y) refl none h (λ n later. none_has p ys x n later e) where
  by : (b : Bool) → p y ≡ b → (b || list_any p ys) ≡ false → Has (y ∷ ys) x → (list_any p ys ≡ false → Has ys x → ⊥) → ⊥
  by true f n k ih = false≢true (sym n)
  by false f n (inl same) ih = false≢true (sym f ∙ ap p same ∙ e)
  by false f n (inr later) ih = ih n later
