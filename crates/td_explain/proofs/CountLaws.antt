-- What a count, a place and the first place of a list say of its elements.
use Rattle.td_explain.proofs.Words.{Bool, List, None, Option, Some, [], ap, arith, cases_Bool, cases_lt, cond-true, count_by, fails_before_first, false, get_or, inl, inr, is_some, length, lt-ltb, one_if, passes_at_first, position, position_or_len, refl, slice_get, suc, sum_by-append, sym, true, zero, zero-add, ℕ, ◌++◌, ◌+◌, ◌<◌, ◌∙◌, ◌∷◌, ◌≡◌}

pub got : (xs : List ℕ) (n : ℕ) → is_some (slice_get xs n) ≡ true → n < length xs
got [] n e = absurd cc
got (x ∷ xs) zero e = omega arith
got (x ∷ xs) (suc n) e = let ih = got xs n e in omega (arith, ih)

pub gets : (xs : List ℕ) (n : ℕ) → n < length xs → is_some (slice_get xs n) ≡ true
gets [] n less = absurd (omega (arith, less))
gets (x ∷ xs) zero less = refl
gets (x ∷ xs) (suc n) less = gets xs n (omega (arith, less))

pub at_seam : {A : Type 0} (xs : List A) (x : A) (rest : List A) → slice_get (xs ++ x ∷ rest) (length xs) ≡ Some x
at_seam [] x rest = refl
at_seam (y ∷ ys) x rest = at_seam ys x rest

pub one_of : {A : Type 0} (x y : A) → let o : Option A = Some x in o ≡ Some y → x ≡ y
one_of x y same = cc

-- the first of a list counts, or not
pub count_first : {X : Type 0} (p : X → Bool) (x : X) (xs : List X) → count_by p (x ∷ xs) ≡ one_if (p x) + count_by p xs
count_first p x xs = sum_by-append (λ y. one_if (p y)) (x ∷ []) xs ∙ ap (λ (n : ℕ). n + count_by p xs) (zero-add (one_if (p x)))

pub none_counted : {X : Type 0} (p : X → Bool) (xs : List X) (i : ℕ) (d : X) → count_by p xs ≡ 0 → i < length xs → p (get_or xs i d) ≡ false
none_counted p [] i d none less = absurd (omega (arith, less))
none_counted p (x ∷ xs) zero d none less =
    elim (cases_Bool (p x)) [ inl passes ↦ absurd (omega (arith, none, count_first p x xs, ap one_if passes)) | inr fails ↦ fails ]
none_counted p (x ∷ xs) (suc i) d none less = none_counted p xs i d (omega (arith, none, count_first p x xs)) (omega (arith, less))

pub counted_none : {X : Type 0} (p : X → Bool) (xs : List X) (d : X) → ((i : ℕ) → i < length xs → p (get_or xs i d) ≡ false) → count_by p xs ≡ 0
counted_none p [] d none = refl
counted_none p (x ∷ xs) d none =
    let head : p x ≡ false = none 0 (omega arith) in
    let tail = counted_none p xs d (λ i less. none (suc i) (omega (arith, less))) in
    count_first p x xs ∙ omega (arith, ap one_if head, tail)

pub position_is : {X : Type 0} (p : X → Bool) (xs : List X) (i : ℕ) (d : X) → i < length xs → p (get_or xs i d) ≡ true
    → ((k : ℕ) → k < i → p (get_or xs k d) ≡ false) → position p xs ≡ Some i
position_is p xs i d inside passes before =
    let first = position_or_len p xs in
    let not_later : i < first → ⊥ = λ less. (let fails = fails_before_first p xs i d less in let both = sym passes ∙ fails in cc) in
    let not_earlier : first < i → ⊥ = λ less. (let here = passes_at_first p xs d (omega (arith, less, inside)) in let both = sym here
    ∙ before first less in cc) in
    let is : first ≡ i = elim (cases_lt first i) [
      | inl less ↦ absurd (not_earlier less)
      | inr le ↦ elim (cases_lt i first) [ inl less ↦ absurd (not_later less) | inr ge ↦ omega (arith, le, ge) ]
    ] in
    cond-true _ (Some first) None (lt-ltb first (length xs) (omega (arith, is, inside))) ∙ ap (λ (n : ℕ). let o : Option ℕ = Some n in o) is
