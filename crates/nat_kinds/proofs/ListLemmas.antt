-- Lists: what holds of each element, filters, searches, elements that are distinct.
use Rattle.nat_kinds.proofs.Words.{AllByRecursion, Bool, IsDistinct, IsDistinct-cons, IsDistinct-from_apart, IsDistinct-head, IsDistinct-tail, List, None, Some, [], ap, arith, cond, false, false≢true, filter, find, length, list_any, map, or_cases, or_parts, refl, subst, suc, sym, true, ⊎_elim, ◌||◌, ◌∙◌, ◌∷◌, ◌≡◌}
use Rattle.std.specs.Option.{is_some}

-- ALL, BY RECURSION

pub all_filter : {X : Type 0} (P : X → Type 0) (p : X → Bool) (xs : List X) → AllByRecursion P xs → AllByRecursion P (filter p xs)
all_filter P p [] a = tt
all_filter P p (x ∷ xs) a = elim (p x) as (λ b. AllByRecursion P (cond b (x ∷ filter p xs) (filter p xs))) [ true ↦ (a.0, all_filter P p xs a.1) | false ↦ all_filter P p xs a.1 ]

pub all_two : {X : Type 0} (P Q R : X → Type 0) (xs : List X) → ((x : X) → P x → Q x → R x) → AllByRecursion P xs → AllByRecursion Q xs → AllByRecursion R xs
all_two P Q R [] f a b = tt
all_two P Q R (x ∷ xs) f a b = (f x a.0 b.0, all_two P Q R xs f a.1 b.1)

pub all_any : {X : Type 0} (P : X → Type 0) (xs : List X) → ((x : X) → P x) → AllByRecursion P xs
all_any P [] f = tt
all_any P (x ∷ xs) f = (f x, all_any P xs f)

-- what a filter keeps passes it
pub all_passed : {X : Type 0} (p : X → Bool) (xs : List X) → AllByRecursion (λ x. p x ≡ true) (filter p xs)
all_passed p [] = tt
all_passed {X} p (x ∷ xs) = by_case (p x) refl (all_passed p xs)
  where
    by_case : (b : Bool) → p x ≡ b → AllByRecursion (λ y. p y ≡ true) (filter p xs) → AllByRecursion (λ y. p y ≡ true) (cond b (x ∷ filter p xs) (filter p xs))
    by_case true e h = (e, h)
    by_case false e h = h

-- FILTERS

pub filter_swap : {X : Type 0} (p q : X → Bool) (xs : List X) → filter p (filter q xs) ≡ filter q (filter p xs)
filter_swap p q [] = refl
filter_swap {X} p q (x ∷ xs) = by_cases (p x) (q x) refl refl (filter_swap p q xs)
  where
    by_cases : (a b : Bool) → p x ≡ a → q x ≡ b → filter p (filter q xs) ≡ filter q (filter p xs) → filter p (cond b (x ∷ filter q xs) (filter q xs)) ≡ filter q (cond a (x ∷ filter p xs) (filter p xs))
    by_cases true true e f h = rw (e, f) (ap (λ ys. x ∷ ys) h)
    by_cases true false e f h = rw f h
    by_cases false true e f h = rw e h
    by_cases false false e f h = h

-- what fails q fails p, so a filter by q before one by p changes nothing
pub filter_wider : {X : Type 0} (p q : X → Bool) → ((x : X) → p x ≡ true → q x ≡ true) → (xs : List X) → filter p (filter q xs) ≡ filter p xs
filter_wider p q h [] = refl
filter_wider {X} p q h (x ∷ xs) = by_cases (p x) (q x) refl refl (filter_wider p q h xs)
  where
    by_cases : (a b : Bool) → p x ≡ a → q x ≡ b → filter p (filter q xs) ≡ filter p xs → filter p (cond b (x ∷ filter q xs) (filter q xs)) ≡ cond a (x ∷ filter p xs) (filter p xs)
    by_cases true true e f i = rw e (ap (λ ys. x ∷ ys) i)
    by_cases true false e f i = absurd (let g : q x ≡ true = h x e in cc)
    by_cases false true e f i = rw e i
    by_cases false false e f i = i

-- SEARCHES

pub any_found : {X : Type 0} (q : X → Bool) (xs : List X) → list_any q xs ≡ is_some (find q xs)
any_found q [] = refl
any_found {X} q (x ∷ xs) = by_case (q x) (any_found q xs)
  where
    by_case : (b : Bool) → list_any q xs ≡ is_some (find q xs) → (b || list_any q xs) ≡ is_some (cond b (Some x) (find q xs))
    by_case true h = refl
    by_case false h = h

pub found_passes : {X : Type 0} (q : X → Bool) (xs : List X) (f : X) → find q xs ≡ Some f → q f ≡ true
found_passes q [] f h = cc
found_passes {X} q (x ∷ xs) f h = by_case (q x) refl h (λ i. found_passes q xs f i)
  where
    by_case : (b : Bool) → q x ≡ b → cond b (Some x) (find q xs) ≡ Some f → (find q xs ≡ Some f → q f ≡ true) → q f ≡ true
    by_case true e i k = let g : x ≡ f = cc in ap q (sym g) ∙ e
    by_case false e i k = k i

pub all_found : {X : Type 0} (P : X → Type 0) (q : X → Bool) (xs : List X) (f : X) → AllByRecursion P xs → find q xs ≡ Some f → P f
all_found P q [] f a h = absurd (let g : Some f ≡ None = sym h in cc)
all_found {X} P q (x ∷ xs) f a h = by_case (q x) h (λ i. all_found P q xs f a.1 i)
  where
    by_case : (b : Bool) → cond b (Some x) (find q xs) ≡ Some f → (find q xs ≡ Some f → P f) → P f
    by_case true i k = let g : x ≡ f = cc in subst P g a.0
    by_case false i k = k i

pub none_passes : {X : Type 0} (q : X → Bool) (xs : List X) → list_any q xs ≡ false → AllByRecursion (λ x. q x ≡ false) xs
none_passes q [] h = tt
none_passes q (x ∷ xs) h = let both = or_parts (q x) (list_any q xs) h in (both.0, none_passes q xs both.1)

pub find_none : {X : Type 0} (q : X → Bool) (xs : List X) → AllByRecursion (λ x. q x ≡ false) xs → find q xs ≡ None
find_none q [] a = refl
find_none q (x ∷ xs) a = rw a.0 (find_none q xs a.1)

pub find_alike : {X : Type 0} (q r : X → Bool) (xs : List X) → AllByRecursion (λ x. q x ≡ r x) xs → find q xs ≡ find r xs
find_alike q r [] a = refl
find_alike q r (x ∷ xs) a = rw (a.0, find_alike q r xs a.1) refl

pub none_found : {X : Type 0} (q : X → Bool) (xs : List X) → find q xs ≡ None → AllByRecursion (λ x. q x ≡ false) xs
none_found q xs h = none_passes q xs (any_found q xs ∙ ap is_some h)

pub all_mapped : {X Y : Type 0} (f : X → Y) (P : Y → Type 0) (xs : List X) → AllByRecursion (λ x. P (f x)) xs → AllByRecursion P (map f xs)
all_mapped f P [] a = tt
all_mapped f P (x ∷ xs) a = (a.0, all_mapped f P xs a.1)

pub all_filter_mapped : {X Y : Type 0} (f : X → Y) (P : Y → Type 0) (p : X → Bool) (xs : List X) → AllByRecursion P (map f xs) → AllByRecursion P (map f (filter p xs))
all_filter_mapped f P p [] a = tt
all_filter_mapped f P p (x ∷ xs) a = elim (p x) as (λ b. AllByRecursion P (map f (cond b (x ∷ filter p xs) (filter p xs)))) [ true ↦ (a.0, all_filter_mapped f P p xs a.1) | false ↦ all_filter_mapped f P p xs a.1 ]

pub distinct_none : {Y : Type 0} (e : Y → Y → Bool) → IsDistinct e []
distinct_none e = IsDistinct-from_apart e [] (λ i j d h k. absurd (omega arith))

pub distinct_filter : {X Y : Type 0} (e : Y → Y → Bool) (f : X → Y) (p : X → Bool) (xs : List X) → IsDistinct e (map f xs) → IsDistinct e (map f (filter p xs))
distinct_filter e f p [] d = distinct_none e
distinct_filter e f p (x ∷ xs) d =
    let head = IsDistinct-head e (f x) (map f xs) d in
    let rest = distinct_filter e f p xs (IsDistinct-tail e (f x) (map f xs) d) in
    elim (p x) as (λ b. IsDistinct e (map f (cond b (x ∷ filter p xs) (filter p xs)))) [ true ↦ IsDistinct-cons e (f x) (map f (filter p xs)) (all_filter_mapped f (λ y. e (f x) y ≡ false) p xs head) rest | false ↦ rest ]

pub any_all : {X : Type 0} (q : X → Bool) (P : X → Type 0) (R : Type 0) (xs : List X) → ((x : X) → q x ≡ true → P x → R) → AllByRecursion P xs → list_any q xs ≡ true → R
any_all q P R [] f a h = absurd (false≢true h)
any_all q P R (x ∷ xs) f a h = ⊎_elim (λ e. f x e a.0) (λ i. any_all q P R xs f a.1 i) (or_cases (q x) (list_any q xs) h)

pub length-mapped : {X Y : Type 0} (f : X → Y) (xs : List X) → length (map f xs) ≡ length xs
length-mapped f [] = refl
length-mapped f (x ∷ xs) = ap suc (length-mapped f xs)
