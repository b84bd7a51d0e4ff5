-- Counts over lists, and over numbered entries of which each is delivered at most once.
use Rattle.theory_wires.proofs.Words.{Bool, Full, Item, List, Option, Some, [], and_from, ap, arith, cond, count_by, eq-eqb, false, false≢true, is_number, is_some, map, or_left, or_right, refl, slice_get, subst, suc, sum_by-append, sum_by-cons, take, times_delivered, true, unwrap_or, zero, ℕ, ◌&&◌, ◌++◌, ◌+◌, ◌==◌, ◌||◌, ◌∙◌, ◌∷◌, ◌≡◌, ◌≤◌}

abbrev pub one_if : Bool → ℕ
one_if b = cond b 1 0

-- LISTS

pub count_cons : {A : Type 0} (p : A → Bool) (x : A) (xs : List A) → count_by p (x ∷ xs) ≡ one_if (p x) + count_by p xs
count_cons p x xs = sum_by-cons (λ y. one_if (p y)) x xs

pub count_append : {A : Type 0} (p : A → Bool) (xs ys : List A) → count_by p (xs ++ ys) ≡ count_by p xs + count_by p ys
count_append p xs ys = sum_by-append (λ y. one_if (p y)) xs ys

pub count_map : {A B : Type 0} (p : B → Bool) (f : A → B) (xs : List A) → count_by p (map f xs) ≡ count_by (λ x. p (f x)) xs
count_map p f [] = refl
count_map p f (x ∷ xs) =
    let left = count_cons p (f x) (map f xs) in
    let right = count_cons (λ y. p (f y)) x xs in
    let rest = count_map p f xs in
    omega (arith, left, right, rest)

pub count_same : {A : Type 0} (p q : A → Bool) (xs : List A) → ((x : A) → p x ≡ q x) → count_by p xs ≡ count_by q xs
count_same p q [] same = refl
count_same p q (x ∷ xs) same =
    let left = count_cons p x xs in
    let right = count_cons q x xs in
    let here = ap one_if (same x) in
    let rest = count_same p q xs same in
    omega (arith, left, right, here, rest)

one_under : (a b : Bool) → (a ≡ true → b ≡ true) → one_if a ≤ one_if b
one_under true b h = let is = ap one_if (h refl) in omega (arith, is)
one_under false b h = omega arith

pub count_under : {A : Type 0} (p q : A → Bool) (xs : List A) → ((x : A) → p x ≡ true → q x ≡ true) → count_by p xs ≤ count_by q xs
count_under p q [] under = omega arith
count_under p q (x ∷ xs) under =
    let left = count_cons p x xs in
    let right = count_cons q x xs in
    let here = one_under (p x) (q x) (under x) in
    let rest = count_under p q xs under in
    omega (arith, left, right, here, rest)

one_or : (a b : Bool) → one_if (a || b) ≤ one_if a + one_if b
one_or true b = omega arith
one_or false b = omega arith

pub count_or : {A : Type 0} (p q : A → Bool) (xs : List A) → count_by (λ x. p x || q x) xs ≤ count_by p xs + count_by q xs
count_or p q [] = omega arith
count_or p q (x ∷ xs) =
    let both = count_cons (λ y. p y || q y) x xs in
    let left = count_cons p x xs in
    let right = count_cons q x xs in
    let here = one_or (p x) (q x) in
    let rest = count_or p q xs in
    omega (arith, both, left, right, here, rest)

none_of : {A : Type 0} (p : A → Bool) (n : ℕ) → count_by p (take n []) ≡ 0
none_of p zero = refl
none_of p (suc n) = refl

-- the longer front counts no less
pub count_front : {A : Type 0} (p : A → Bool) (xs : List A) (m n : ℕ) → m ≤ n → count_by p (take m xs) ≤ count_by p (take n xs)
count_front p [] m n less = let left = none_of p m in omega (arith, left)
count_front p (x ∷ xs) zero n less = omega arith
count_front p (x ∷ xs) (suc m) zero less = absurd (omega (arith, less))
count_front p (x ∷ xs) (suc m) (suc n) less =
    let left = count_cons p x (take m xs) in
    let right = count_cons p x (take n xs) in
    let rest = count_front p xs m n (omega (arith, less)) in
    omega (arith, left, right, rest)

-- ENTRIES, AND THE RECORDS THAT DELIVER THEM

-- the number is that of one of these entries, which are numbered from i on, and this passes
abbrev pub numbered : (Item → Bool) → ℕ → List Item → Option ℕ → Bool
numbered o i [] d = false
numbered o i (x ∷ xs) d = (is_number i d && o x) || numbered o (i + 1) xs d

pub numbered_at : (o : Item → Bool) (i : ℕ) (xs : List Item) (k : ℕ) (x : Item) → slice_get xs k ≡ Some x → o x ≡ true → numbered o i xs (Some (i + k)) ≡ true
numbered_at o i [] k x e is = absurd (false≢true (ap (λ (z : Option Item). is_some z) e))
numbered_at o i (y ∷ ys) zero x e is =
    let here : (i + 0 == i) ≡ true = eq-eqb (i + 0) i (omega arith) in
    let same : y ≡ x = ap (λ (z : Option Item). unwrap_or z y) e in
    or_left (is_number i (Some (i + 0)) && o y) (numbered o (i + 1) ys (Some (i + 0))) (and_from (i + 0 == i) (o y) here (ap o same ∙ is))
numbered_at o i (y ∷ ys) (suc k) x e is =
    let there : i + 1 + k ≡ i + suc k = omega arith in
    or_right (is_number i (Some (i + suc k)) && o y) (numbered o (i + 1) ys (Some (i + suc k)))
    (subst (λ (j : ℕ). numbered o (i + 1) ys (Some j) ≡ true) there (numbered_at o (i + 1) ys k x e is))

zero_of : {A : Type 0} (p : A → Bool) (xs : List A) → count_by (λ x. p x && false) xs ≤ 0
zero_of p [] = omega arith
zero_of p (x ∷ xs) =
    let whole = count_cons (λ y. p y && false) x xs in
    let here : one_if (p x && false) ≡ 0 = by (p x) in
    let rest = zero_of p xs in
    omega (arith, whole, here, rest)
  where
    by : (b : Bool) → one_if (b && false) ≡ 0
    by true = refl
    by false = refl

-- where each that passes is delivered at most once, no more records deliver such entries than there are
pub few_deliver : (o : Item → Bool) (R : List Full) (i : ℕ) (xs : List Item)
    → ((k : ℕ) (x : Item) → slice_get xs k ≡ Some x → o x ≡ true → times_delivered (i + k) R ≤ 1)
    → count_by (λ (r : Full). numbered o i xs r.delivered) R ≤ count_by o xs
few_deliver o R i [] once = none R where
  none : (rs : List Full) → count_by (λ (r : Full). false) rs ≤ 0
  none [] = omega arith
  none (r ∷ rs) = let whole = count_cons (λ (q : Full). false) r rs in let rest = none rs in omega (arith, whole, rest)
few_deliver o R i (x ∷ xs) once =
    let both = count_or (λ (r : Full). is_number i r.delivered && o x) (λ (r : Full). numbered o (i + 1) xs r.delivered) R in
    let first = by (o x) refl in
    let rest = few_deliver o R (i + 1) xs (λ k y e is. let there : i + suc k ≡ i + 1 + k = omega arith in
    subst (λ (j : ℕ). times_delivered j R ≤ 1) there (once (suc k) y e is)) in
    let whole = count_cons o x xs in
    omega (arith, both, first, rest, whole)
  where
    by : (b : Bool) → o x ≡ b → count_by (λ (r : Full). is_number i r.delivered && o x) R ≤ one_if (o x)
    by true e =
        let here : i + 0 ≡ i = omega arith in
        let one = subst (λ (j : ℕ). times_delivered j R ≤ 1) here (once 0 x refl e) in
        let under = count_under (λ (r : Full). is_number i r.delivered && o x) (λ (r : Full). is_number i r.delivered) R
        (λ r h. left (is_number i r.delivered) (o x) h) in
        let is = ap one_if e in
        omega (arith, one, under, is)
      where
        left : (p q : Bool) → (p && q) ≡ true → p ≡ true
        left true q h = refl
        left false q h = absurd (false≢true h)
    by false e =
        let same = count_same (λ (r : Full). is_number i r.delivered && o x) (λ (r : Full). is_number i r.delivered && false) R
        (λ r. ap (λ (b : Bool). is_number i r.delivered && b) e) in
        let zero = zero_of (λ (r : Full). is_number i r.delivered) R in
        omega (arith, same, zero)
