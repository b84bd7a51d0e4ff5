-- The text of a peer's tries, one by one.
use Rattle.state_lines.proofs.Words.{Bool, LISTED_MS, List, Millis, [], ap, append-nil, append_assoc, arith, before, codes, comma_if, dash_unless, decimal, drop, false, further_moments, get_or, is_none, is_younger, length, map, moments_text, not, refl, reverse, reverse_onto, subst, sym, take, take_rest, tries_text, true, young_moments, ℕ, ◌++◌, ◌-◌, ◌∙◌, ◌∷◌, ◌≡◌, ◌≤◌}

-- ONE MORE TRY, the latest one

more_text : (n m : ℕ) (ms : List ℕ) → is_younger LISTED_MS n m ≡ true
    → tries_text n (m ∷ ms) ≡ tries_text n ms ++ (comma_if (not (is_none (young_moments n ms))) ++ decimal m)
more_text n m ms young = rw young refl

-- the first of some moments, and the others
pub split_moments : (ts : List Millis) (d : Millis) → 1 ≤ length ts
    → map (λ (x : Millis). x.0) ts ≡ (get_or ts 0 d).0 ∷ map (λ (x : Millis). x.0) (take (length ts - 1) (drop 1 ts))
split_moments [] d some = absurd (omega (arith, some))
split_moments (t ∷ ts) d some = ap (λ (xs : List Millis). t.0 ∷ map (λ (x : Millis). x.0) xs) (sym (take_rest (t ∷ ts) 1))

-- what stands in the line after it
pub put_more : (n : ℕ) (ts rest : List Millis) (any : Bool) (m : ℕ) (old one new : List ℕ)
    → one ≡ old ++ tries_text n (map (λ (x : Millis). x.0) rest)
    → any ≡ not (is_none (young_moments n (map (λ (x : Millis). x.0) rest)))
    → new ≡ one ++ (comma_if any ++ decimal m)
    → is_younger LISTED_MS n m ≡ true → map (λ (x : Millis). x.0) ts ≡ m ∷ map (λ (x : Millis). x.0) rest
    → new ≡ old ++ tries_text n (map (λ (x : Millis). x.0) ts)
put_more n ts rest any m old one new e some f young is =
    let ms = map (λ (x : Millis). x.0) rest in
    let joined : new ≡ old ++ (tries_text n ms ++ (comma_if any ++ decimal m)) = before old (tries_text n ms) (comma_if any ++ decimal m) e f in
    let told = subst (λ (b : Bool). new ≡ old ++ (tries_text n ms ++ (comma_if b ++ decimal m))) some joined in
    subst (λ (xs : List ℕ). new ≡ old ++ tries_text n xs) (sym is) (told ∙ ap (λ (x : List ℕ). old ++ x) (sym (more_text n m ms young)))

-- ALL OF THEM

further_more : (ms : List ℕ) (m : ℕ) → further_moments (ms ++ m ∷ []) ≡ further_moments ms ++ (codes "," ++ decimal m)
further_more [] m = ap (λ (t : List ℕ). codes "," ++ t) (append-nil (decimal m))
further_more (k ∷ ms) m = ap (λ (t : List ℕ). codes "," ++ t) (ap (λ (t : List ℕ). decimal k ++ t) (further_more ms m)
    ∙ sym (append_assoc (decimal k) (further_moments ms) (codes "," ++ decimal m)))

-- moments with commas between them
abbrev joined : List ℕ → List ℕ
joined [] = []
joined (m ∷ ms) = decimal m ++ further_moments ms

joined_more : (ms : List ℕ) (m : ℕ) → joined (ms ++ m ∷ []) ≡ joined ms ++ (comma_if (not (is_none ms)) ++ decimal m)
joined_more [] m = append-nil (decimal m)
joined_more (k ∷ ms) m = ap (λ (t : List ℕ). decimal k ++ t) (further_more ms m) ∙ sym (append_assoc (decimal k) (further_moments ms) (codes "," ++ decimal m))

moments_joined : (ms : List ℕ) → moments_text ms ≡ joined ms ++ dash_unless (not (is_none ms))
moments_joined [] = refl
moments_joined (m ∷ ms) = sym (append-nil (decimal m ++ further_moments ms))

reverse-cons : (m : ℕ) (ms : List ℕ) → reverse (m ∷ ms) ≡ reverse ms ++ m ∷ []
reverse-cons m ms = reverse_onto ms m []

is_none_more : (ms : List ℕ) (m : ℕ) → is_none (ms ++ m ∷ []) ≡ false
is_none_more [] m = refl
is_none_more (k ∷ ms) m = refl

is_none_reverse : (ms : List ℕ) → is_none (reverse ms) ≡ is_none ms
is_none_reverse [] = refl
is_none_reverse (m ∷ ms) = ap (λ (x : List ℕ). is_none x) (reverse-cons m ms) ∙ is_none_more (reverse ms) m

-- the tries that count, the latest last
tries_joined : (n : ℕ) (ms : List ℕ) → tries_text n ms ≡ joined (reverse (young_moments n ms))
tries_joined n [] = refl
tries_joined n (m ∷ ms) = by (tries_joined n ms) (is_younger LISTED_MS n m) refl where
  by : tries_text n ms ≡ joined (reverse (young_moments n ms)) → (b : Bool) → is_younger LISTED_MS n m ≡ b
      → tries_text n (m ∷ ms) ≡ joined (reverse (young_moments n (m ∷ ms)))
  by before_it true young = rw young (ap (λ (t : List ℕ). t ++ (comma_if (not (is_none (young_moments n ms))) ++ decimal m)) before_it
      ∙ ap (λ (b : Bool). joined (reverse (young_moments n ms)) ++ (comma_if (not b) ++ decimal m)) (sym (is_none_reverse (young_moments n ms)))
      ∙ sym (joined_more (reverse (young_moments n ms)) m)
      ∙ ap joined (sym (reverse-cons m (young_moments n ms))))
  by before_it false old = rw old before_it

-- what a line has of them
pub moments_are : (n : ℕ) (ms : List ℕ) → moments_text (reverse (young_moments n ms)) ≡ tries_text n ms ++ dash_unless (not (is_none (young_moments n ms)))
moments_are n ms = moments_joined (reverse (young_moments n ms))
    ∙ ap (λ (t : List ℕ). t ++ dash_unless (not (is_none (reverse (young_moments n ms))))) (sym (tries_joined n ms))
    ∙ ap (λ (b : Bool). tries_text n ms ++ dash_unless (not b)) (is_none_reverse (young_moments n ms))
