-- Lists of which a part is taken.
use Rattle.load_keeper.proofs.Words.{Bool, List, None, Some, [], ap, false, filter, find, refl, true, ◌++◌, ◌∷◌, ◌≡◌}

module _ {A : Type 0} where
  -- a test finds the same among what another one lets through, where that lets through all that it passes
  pub find_kept : (f g : A → Bool) → ((x : A) → f x ≡ true → g x ≡ true) → (xs : List A) → find f (filter g xs) ≡ find f xs
  find_kept f g lets [] = refl
  find_kept f g lets (x ∷ xs) = by (find_kept f g lets xs) (f x) refl (g x) refl where
    by : find f (filter g xs) ≡ find f xs → (b : Bool) → f x ≡ b → (c : Bool) → g x ≡ c → find f (filter g (x ∷ xs)) ≡ find f (x ∷ xs)
    by more true is c kept = rw (lets x is, is) refl
    by more false is true kept = rw (kept, is) more
    by more false is false kept = rw (kept, is) more

  -- and none, where it lets through nothing of it
  pub find_none : (f g : A → Bool) → ((x : A) → f x ≡ true → g x ≡ false) → (xs : List A) → find f (filter g xs) ≡ None
  find_none f g stops [] = refl
  find_none f g stops (x ∷ xs) = by (find_none f g stops xs) (f x) refl (g x) refl where
    by : find f (filter g xs) ≡ None → (b : Bool) → f x ≡ b → (c : Bool) → g x ≡ c → find f (filter g (x ∷ xs)) ≡ None
    by more true is c kept = rw (stops x is) more
    by more false is true kept = rw (kept, is) more
    by more false is false kept = rw kept more

  -- the same of all that it passes
  pub filter_kept : (f g : A → Bool) → ((x : A) → f x ≡ true → g x ≡ true) → (xs : List A) → filter f (filter g xs) ≡ filter f xs
  filter_kept f g lets [] = refl
  filter_kept f g lets (x ∷ xs) = by (filter_kept f g lets xs) (f x) refl (g x) refl where
    by : filter f (filter g xs) ≡ filter f xs → (b : Bool) → f x ≡ b → (c : Bool) → g x ≡ c → filter f (filter g (x ∷ xs)) ≡ filter f (x ∷ xs)
    by more true is c kept = rw (lets x is, is) (ap (λ (ys : List A). x ∷ ys) more)
    by more false is true kept = rw (kept, is) more
    by more false is false kept = rw (kept, is) more

  pub filter_none : (f g : A → Bool) → ((x : A) → f x ≡ true → g x ≡ false) → (xs : List A) → filter f (filter g xs) ≡ []
  filter_none f g stops [] = refl
  filter_none f g stops (x ∷ xs) = by (filter_none f g stops xs) (f x) refl (g x) refl where
    by : filter f (filter g xs) ≡ [] → (b : Bool) → f x ≡ b → (c : Bool) → g x ≡ c → filter f (filter g (x ∷ xs)) ≡ []
    by more true is c kept = rw (stops x is) more
    by more false is true kept = rw (kept, is) more
    by more false is false kept = rw kept more

  -- what is found behind what has none of it
  pub find_behind : (f : A → Bool) (xs ys : List A) → find f xs ≡ None → find f (xs ++ ys) ≡ find f ys
  find_behind f [] ys none = refl
  find_behind f (x ∷ xs) ys none = by (find_behind f xs ys) (f x) refl none where
    by : (find f xs ≡ None → find f (xs ++ ys) ≡ find f ys) → (b : Bool) → f x ≡ b → find f (x ∷ xs) ≡ None → find f ((x ∷ xs) ++ ys) ≡ find f ys
    by more true is none = let e : Some x ≡ None = rw is at none in absurd (cc e)
    by more false is none = rw is (more (rw is at none))

  -- one more at the end, that isn't found, changes nothing
  pub find_before : (f : A → Bool) (xs : List A) (y : A) → f y ≡ false → find f (xs ++ y ∷ []) ≡ find f xs
  find_before f [] y differs = rw differs refl
  find_before f (x ∷ xs) y differs = by (find_before f xs y differs) (f x) refl where
    by : find f (xs ++ y ∷ []) ≡ find f xs → (b : Bool) → f x ≡ b → find f ((x ∷ xs) ++ y ∷ []) ≡ find f (x ∷ xs)
    by more true is = rw is refl
    by more false is = rw is more
