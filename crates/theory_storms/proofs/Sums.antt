-- Sums over what is undelivered, and over what comes onto the wire.
use Rattle.theory_storms.proofs.Words.{Bool, Full, Item, List, Made, Option, Some, [], ap, arith, cond, false, false≢true, is_some, lost, sent, slice_get, suc, sum_by, sum_by-cons, sym, true, undelivered_from, unwrap_or, was_delivered, zero, ℕ, ◌++◌, ◌+◌, ◌∙◌, ◌∷◌, ◌≡◌, ◌≤◌}
use Rattle.theory_storms.proofs.NewItems.{items_in}

pub all_under : {A : Type 0} (f g : A → ℕ) (xs : List A) → ((x : A) → f x ≤ g x) → sum_by f xs ≤ sum_by g xs
all_under f g [] h = omega arith
all_under f g (x ∷ xs) h =
    let one = h x in
    let rest = all_under f g xs h in
    let a = sum_by-cons f x xs in
    let b = sum_by-cons g x xs in
    omega (arith, one, rest, a, b)

-- where nothing weighs more than before, one that is undelivered counts its difference
module _ (H : List Full) (f g : Item → ℕ) (under : (y : Item) → f y ≤ g y) where
  pub one_counts : (i n : ℕ) (xs : List Item) {x : Item} → slice_get xs n ≡ Some x
      → was_delivered (i + n) H ≡ false → sum_by f (undelivered_from H i xs) + g x ≤ sum_by g (undelivered_from H i xs) + f x
  one_counts i n [] at fresh = absurd (false≢true (ap (λ (o : Option Item). is_some o) at))
  one_counts i zero (y ∷ xs) {x} at fresh =
      let is : y ≡ x = ap (λ (o : Option Item). unwrap_or o y) at in
      let here : i + 0 ≡ i = omega arith in
      let still : was_delivered i H ≡ false = ap (λ (k : ℕ). was_delivered k H) (sym here) ∙ fresh in
      let left = ap (λ (b : Bool). sum_by f (cond b (undelivered_from H (i + 1) xs) (y ∷ undelivered_from H (i + 1) xs))) still in
      let right = ap (λ (b : Bool). sum_by g (cond b (undelivered_from H (i + 1) xs) (y ∷ undelivered_from H (i + 1) xs))) still in
      let a = sum_by-cons f y (undelivered_from H (i + 1) xs) in
      let b = sum_by-cons g y (undelivered_from H (i + 1) xs) in
      let rest = all_under f g (undelivered_from H (i + 1) xs) under in
      let c = ap f is in
      let e = ap g is in
      omega (arith, left, right, a, b, rest, c, e)
  one_counts i (suc n) (y ∷ xs) {x} at fresh =
      let moved : i + suc n ≡ i + 1 + n = omega arith in
      let rest = one_counts (i + 1) n xs at (ap (λ (k : ℕ). was_delivered k H) (sym moved) ∙ fresh) in
      by (was_delivered i H) rest
    where
      by : (b : Bool) → sum_by f (undelivered_from H (i + 1) xs) + g x ≤ sum_by g (undelivered_from H (i + 1) xs) + f x
          → sum_by f (cond b (undelivered_from H (i + 1) xs) (y ∷ undelivered_from H (i + 1) xs)) + g x
          ≤ sum_by g (cond b (undelivered_from H (i + 1) xs) (y ∷ undelivered_from H (i + 1) xs)) + f x
      by true h = h
      by false h =
          let one = under y in
          let a = sum_by-cons f y (undelivered_from H (i + 1) xs) in
          let b = sum_by-cons g y (undelivered_from H (i + 1) xs) in
          omega (arith, h, one, a, b)

-- what came onto the wire in two parts
pub in_two : (f : Item → ℕ) (xs ys : List Made) → sum_by f (items_in (xs ++ ys)) ≡ sum_by f (items_in xs) + sum_by f (items_in ys)
in_two f [] ys = omega arith
in_two f (sent x ∷ xs) ys =
    let rest = in_two f xs ys in
    let a = sum_by-cons f x (items_in (xs ++ ys)) in
    let b = sum_by-cons f x (items_in xs) in
    omega (arith, rest, a, b)
in_two f (lost why dst bytes ∷ xs) ys = in_two f xs ys
