-- Entries that weren't delivered: each that was is on the wire; where one on the wire wasn't, there is a first one.
use Rattle.theory_reaching.proofs.Words.{Bool, Full, Grown, Item, Lab, List, None, Option, Some, [], ap, arith, cond, false, false≢true, first_open, frame, inl, inr, is_number, is_some, items_of, length, length-append, nat_tests, on_wire, refl, suc, sym, true, unwrap_or, was_delivered, wire, zero, ℕ, ◌++◌, ◌+◌, ◌<◌, ◌==◌, ◌||◌, ◌∙◌, ◌∷◌, ◌≡◌, ◌≤◌, ◌⊎◌}

-- WHAT WAS DELIVERED

numbered : (i : ℕ) (o : Option ℕ) → is_number i o ≡ true → o ≡ Some i
numbered i None e = absurd (false≢true e)
numbered i (Some k) e = ap (λ (z : ℕ). Some z) (same k i e) where
  same : (k i : ℕ) → (k == i) ≡ true → k ≡ i
  same k i e = grind (arith, nat_tests)

module _ (lab : Lab) where
  -- the wire only grows
  pub longer : (H : List Full) (r : Full) → length (wire H) ≤ length (wire (r ∷ H))
  longer H r =
      let more : length (wire (r ∷ H)) ≡ length (wire H) + length (items_of r) =
      ap (λ (xs : List Item). length xs) (frame lab H r).grows ∙ length-append (wire H) (items_of r) in
      omega (arith, more)

  -- each that was delivered is on the wire
  pub was_there : (H : List Full) → Grown lab H → (i : ℕ) → was_delivered i H ≡ true → i < length (wire H)
  was_there [] g i e = absurd (false≢true e)
  was_there (r ∷ H) g i e = by (is_number i r.delivered) refl e (was_there H g.1 i) where
    up : (a b c : ℕ) → a < b → b ≤ c → a < c
    up a b c less most = omega (arith, less, most)

    by : (b : Bool) → is_number i r.delivered ≡ b → (b || was_delivered i H) ≡ true → (was_delivered i H ≡ true → i < length (wire H))
        → i < length (wire (r ∷ H))
    by true is e ih = up i (length (wire H)) (length (wire (r ∷ H))) (on_wire lab H r i g (numbered i r.delivered is)) (longer H r)
    by false is e ih = up i (length (wire H)) (length (wire (r ∷ H))) (ih e) (longer H r)

  -- so one that is behind them wasn't
  pub not_yet : (H : List Full) → Grown lab H → (i : ℕ) → length (wire H) ≤ i → was_delivered i H ≡ false
  not_yet H g i beyond = by (was_delivered i H) refl where
    by : (b : Bool) → was_delivered i H ≡ b → b ≡ false
    by false is = refl
    by true is = let less : i < length (wire H) = was_there H g i is in absurd (omega (arith, less, beyond))

-- in no part of a history
pub in_neither : (i : ℕ) (later H : List Full) → was_delivered i later ≡ false → was_delivered i H ≡ false → was_delivered i (later ++ H) ≡ false
in_neither i [] H none e = e
in_neither i (q ∷ later) H none e = by (is_number i q.delivered) none (in_neither i later H) where
  by : (b : Bool) → (b || was_delivered i later) ≡ false → (was_delivered i later ≡ false → was_delivered i H ≡ false → was_delivered i (later ++ H) ≡ false)
      → (b || was_delivered i (later ++ H)) ≡ false
  by true none ih = none
  by false none ih = ih none e

-- nor in its later part where it is so of all
pub in_later : (i : ℕ) (later H : List Full) → was_delivered i (later ++ H) ≡ false → was_delivered i later ≡ false
in_later i [] H e = refl
in_later i (q ∷ later) H e = by (is_number i q.delivered) e (in_later i later H) where
  by : (b : Bool) → (b || was_delivered i (later ++ H)) ≡ false → (was_delivered i (later ++ H) ≡ false → was_delivered i later ≡ false)
      → (b || was_delivered i later) ≡ false
  by true e ih = e
  by false e ih = ih e

-- THE FIRST ONE

-- of these entries, numbered from i on, number k is the first that wasn't
pub record IsFirstOpen (H : List Full) (i : ℕ) (xs : List Item) (k : ℕ) : Type 0 where
  pub is : first_open H i xs ≡ Some k
  pub undelivered : was_delivered k H ≡ false
  pub within : k < i + length xs

pub first_one : (H : List Full) (i : ℕ) (xs : List Item) (j : ℕ) → i ≤ j → j < i + length xs → was_delivered j H ≡ false → (k : ℕ) × IsFirstOpen H i xs k
first_one H i [] j low high e = absurd (let h : j < i + 0 = high in omega (arith, low, h))
first_one H i (x ∷ xs) j low high e = by (was_delivered i H) refl (first_one H (i + 1) xs j) where
  further : ((i + 1 ≤ j → j < i + 1 + length xs → was_delivered j H ≡ false → (k : ℕ) × IsFirstOpen H (i + 1) xs k)) → was_delivered i H ≡ true
      → (k : ℕ) × IsFirstOpen H (i + 1) xs k
  further ih is =
      let h : j < i + suc (length xs) = high in
      ih (more i j low (λ same. false≢true (sym e ∙ ap (λ (z : ℕ). was_delivered z H) same ∙ is))) (omega (arith, h)) e
    where
      more : (i j : ℕ) → i ≤ j → (j ≡ i → ⊥) → i + 1 ≤ j
      more i j low other = by (j == i) refl where
        by : (b : Bool) → (j == i) ≡ b → i + 1 ≤ j
        by true is = let same : j ≡ i = grind (arith, nat_tests) in absurd (other same)
        by false is = grind (arith, nat_tests)

  by : (b : Bool) → was_delivered i H ≡ b → (i + 1 ≤ j → j < i + 1 + length xs → was_delivered j H ≡ false → (k : ℕ) × IsFirstOpen H (i + 1) xs k)
      → (k : ℕ) × IsFirstOpen H i (x ∷ xs) k
  by true is ih =
      let next = further ih is in
      let w : next.0 < i + 1 + length xs = next.1.within in (
        next.0,
        record {
          is = ap (λ (b : Bool). cond b (first_open H (i + 1) xs) (Some i)) is ∙ next.1.is;
          undelivered = next.1.undelivered;
          within = let goal : next.0 < i + suc (length xs) = omega (arith, w) in goal;
        },
      )
  by false is ih = (
    i,
    record {
      is = ap (λ (b : Bool). cond b (first_open H (i + 1) xs) (Some i)) is;
      undelivered = is;
      within = let goal : i < i + suc (length xs) = omega arith in goal;
    },
  )

-- those before it were
pub before_first : (H : List Full) (i : ℕ) (xs : List Item) (k j : ℕ) → first_open H i xs ≡ Some k → i ≤ j → j < k → was_delivered j H ≡ true
before_first H i [] k j e low high = absurd (false≢true (ap (λ (o : Option ℕ). is_some o) e))
before_first H i (x ∷ xs) k j e low high = by (was_delivered i H) refl e (before_first H (i + 1) xs k j) where
  by : (b : Bool) → was_delivered i H ≡ b → cond b (first_open H (i + 1) xs) (Some i) ≡ Some k
      → (first_open H (i + 1) xs ≡ Some k → i + 1 ≤ j → j < k → was_delivered j H ≡ true) → was_delivered j H ≡ true
  by false is e ih = let same : i ≡ k = ap (λ (o : Option ℕ). unwrap_or o i) e in absurd (omega (arith, same, low, high))
  by true is e ih = at (j == i) refl where
    at : (c : Bool) → (j == i) ≡ c → was_delivered j H ≡ true
    at true same = let one : j ≡ i = grind (arith, nat_tests) in ap (λ (z : ℕ). was_delivered z H) one ∙ is
    at false other = let more : i + 1 ≤ j = grind (arith, nat_tests) in ih e more high

-- ALL, OR ONE THAT WASN'T

-- of the numbers from i on, so many
pub all_or_one : (later : List Full) (i n : ℕ) → ((k : ℕ) → i ≤ k → k < i + n → was_delivered k later ≡ true)
    ⊎ ((k : ℕ) × (i ≤ k) × (k < i + n) × (was_delivered k later ≡ false))
all_or_one later i zero = inl (λ k low high. absurd (let h : k < i + 0 = high in omega (arith, low, h)))
all_or_one later i (suc n) = by (was_delivered i later) refl (all_or_one later (i + 1) n) where
  by : (b : Bool) → was_delivered i later ≡ b
      → ((k : ℕ) → i + 1 ≤ k → k < i + 1 + n → was_delivered k later ≡ true) ⊎ ((k : ℕ) × (i + 1 ≤ k) × (k < i + 1 + n) × (was_delivered k later ≡ false))
      → ((k : ℕ) → i ≤ k → k < i + suc n → was_delivered k later ≡ true) ⊎ ((k : ℕ) × (i ≤ k) × (k < i + suc n) × (was_delivered k later ≡ false))
  by false is rest = inr (i, omega arith, omega arith, is)
  by true is (inr one) = let a : i + 1 ≤ one.0 = one.1 in let b : one.0 < i + 1 + n = one.2 in inr (one.0, omega (arith, a), omega (arith, b), one.3)
  by true is (inl all) = inl (λ k low high. at k low high (k == i) refl) where
    at : (k : ℕ) → i ≤ k → k < i + suc n → (c : Bool) → (k == i) ≡ c → was_delivered k later ≡ true
    at k low high true same = let one : k ≡ i = grind (arith, nat_tests) in ap (λ (z : ℕ). was_delivered z later) one ∙ is
    at k low high false other = let more : i + 1 ≤ k = grind (arith, nat_tests) in all k more (omega (arith, high))
