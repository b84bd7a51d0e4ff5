-- What due moments weigh up to an end: each the time from it on, or from now on where it is past.
use Rattle.legal.proofs.Words.{Bool, List, None, Option, Some, [], ap, arith, cond, false, filter, flat_map, le-leb, leb-true, length, max, nat_le, option_to_list, refl, subst, suc, sum_by, sum_by-cons, sym, true, ℕ, ◌*◌, ◌++◌, ◌+◌, ◌-◌, ◌<◌, ◌∙◌, ◌∷◌, ◌≡◌, ◌≤◌}

-- ONE DUE MOMENT

abbrev pub weight : (end m d : ℕ) → ℕ
weight end m d = cond (nat_le d end) (end + 1 - max d m) 0

weight_in : (end m d : ℕ) → d ≤ end → weight end m d ≡ end + 1 - max d m
weight_in end m d l = ap (λ b. cond b (end + 1 - max d m) 0) (le-leb d end l)

-- it weighs no more later
fades : (end m n d : ℕ) → m ≤ n → weight end n d ≤ weight end m d
fades end m n d l = by (nat_le d end) where
  by : (b : Bool) → cond b (end + 1 - max d n) 0 ≤ cond b (end + 1 - max d m) 0
  by true = omega arith
  by false = omega arith

-- it weighs something as long as the end isn't past
some_weight : (end m n d : ℕ) → d ≤ n → m ≤ n → n ≤ end → 0 < weight end m d
some_weight end m n d a b c =
    let is : weight end m d ≡ end + 1 - max d m = weight_in end m d (omega arith) in
    let some : 0 < end + 1 - max d m = omega arith in
    omega arith

-- one that is due weighs more than one that isn't yet
lighter : (end m n old new : ℕ) → old ≤ n → m ≤ n → n ≤ end → n < new → weight end n new < weight end m old
lighter end m n old new a b c later = by (nat_le new end) refl where
  some : 0 < weight end m old
  some = some_weight end m n old a b c

  by : (x : Bool) → nat_le new end ≡ x → weight end n new < weight end m old
  by false e =
      let out : weight end n new ≡ 0 = ap (λ y. cond y (end + 1 - max new n) 0) e in
      omega (arith, out, some)
  by true e =
      let within : new ≤ end = leb-true new end e in
      let there : weight end n new ≡ end + 1 - max new n = weight_in end n new within in
      let here : weight end m old ≡ end + 1 - max old m = weight_in end m old (omega arith) in
      let less : end + 1 - max new n < end + 1 - max old m = omega arith in
      omega (arith, there, here, less)

-- SOME

-- as `left_to` sums them
abbrev pub weights : (end m : ℕ) → List ℕ → ℕ
weights end m ds = sum_by (λ (d : ℕ). end + 1 - max d m) (filter (λ (d : ℕ). nat_le d end) ds)

pub weights_cons : (end m d : ℕ) (ds : List ℕ) → weights end m (d ∷ ds) ≡ weight end m d + weights end m ds
weights_cons end m d ds = by (nat_le d end) where
  by : (b : Bool) → sum_by (λ (x : ℕ). end + 1 - max x m) (cond b (d ∷ filter (λ (x : ℕ). nat_le x end) ds) (filter (λ (x : ℕ). nat_le x end) ds)) ≡ cond b (end + 1 - max d m) 0 + weights end m ds
  by true = sum_by-cons (λ (x : ℕ). end + 1 - max x m) d (filter (λ (x : ℕ). nat_le x end) ds)
  by false = omega arith

pub weights_append : (end m : ℕ) (cs ds : List ℕ) → weights end m (cs ++ ds) ≡ weights end m cs + weights end m ds
weights_append end m [] ds = omega arith
weights_append end m (c ∷ cs) ds =
    let rest : weights end m (cs ++ ds) ≡ weights end m cs + weights end m ds = weights_append end m cs ds in
    let whole : weights end m (c ∷ (cs ++ ds)) ≡ weight end m c + weights end m (cs ++ ds) = weights_cons end m c (cs ++ ds) in
    let front : weights end m (c ∷ cs) ≡ weight end m c + weights end m cs = weights_cons end m c cs in
    omega (arith, rest, whole, front)

pub weights_fade : (end m n : ℕ) (ds : List ℕ) → m ≤ n → weights end n ds ≤ weights end m ds
weights_fade end m n [] l = omega arith
weights_fade end m n (d ∷ ds) l =
    let rest : weights end n ds ≤ weights end m ds = weights_fade end m n ds l in
    let one : weight end n d ≤ weight end m d = fades end m n d l in
    let later : weights end n (d ∷ ds) ≡ weight end n d + weights end n ds = weights_cons end n d ds in
    let before : weights end m (d ∷ ds) ≡ weight end m d + weights end m ds = weights_cons end m d ds in
    omega (arith, rest, one, later, before)

one_weighs : (end m d : ℕ) → weights end m (d ∷ []) ≡ weight end m d
one_weighs end m d = let whole : weights end m (d ∷ []) ≡ weight end m d + 0 = weights_cons end m d [] in omega (arith, whole)

pub one_some : (end m n d : ℕ) → d ≤ n → m ≤ n → n ≤ end → 0 < weights end m (d ∷ [])
one_some end m n d a b c = subst (λ x. 0 < x) (sym (one_weighs end m d)) (some_weight end m n d a b c)

-- nothing, or something that isn't due yet
abbrev pub IsLater : ℕ → Option ℕ → Type 0
IsLater n None = Unit {0}
IsLater n (Some d) = n < d

-- weighs less than what was due
pub lighter_after : (end m n d : ℕ) (o : Option ℕ) → d ≤ n → m ≤ n → n ≤ end → IsLater n o → weights end n (option_to_list o) < weights end m (d ∷ [])
lighter_after end m n d None a b c later = one_some end m n d a b c
lighter_after end m n d (Some x) a b c later =
    let new : weights end n (x ∷ []) ≡ weight end n x = one_weighs end n x in
    let old : weights end m (d ∷ []) ≡ weight end m d = one_weighs end m d in
    let less : weight end n x < weight end m d = lighter end m n d x a b c later in
    omega (arith, new, old, less)

-- each weighs no more than the time to the end
pub weights_most : (end m : ℕ) (ds : List ℕ) → weights end m ds ≤ length ds * (end + 1 - m)
weights_most end m [] = omega arith
weights_most end m (d ∷ ds) =
    let rest : weights end m ds ≤ length ds * (end + 1 - m) = weights_most end m ds in
    let whole : weights end m (d ∷ ds) ≡ weight end m d + weights end m ds = weights_cons end m d ds in
    let one : weight end m d ≤ end + 1 - m = most (nat_le d end) in
    let more : length (d ∷ ds) * (end + 1 - m) ≡ (end + 1 - m) + length ds * (end + 1 - m) = suc_times (length ds) (end + 1 - m) in
    omega (arith, rest, whole, one, more)
  where
    most : (b : Bool) → cond b (end + 1 - max d m) 0 ≤ end + 1 - m
    most true = omega arith
    most false = omega arith

    suc_times : (a b : ℕ) → (suc a) * b ≡ b + a * b
    suc_times a b = omega arith

-- THOSE OF A LIST OF OTHERS

pub weights_each : {A : Type 0} (end m : ℕ) (f : A → List ℕ) (xs : List A) → weights end m (flat_map f xs) ≡ sum_by (λ x. weights end m (f x)) xs
weights_each end m f [] = refl
weights_each end m f (x ∷ xs) =
    weights_append end m (f x) (flat_map f xs) ∙ ap (λ n. weights end m (f x) + n) (weights_each end m f xs) ∙ sym (sum_by-cons (λ y. weights end m (f y)) x xs)
