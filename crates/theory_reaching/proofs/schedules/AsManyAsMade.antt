-- A fresh schedule has no more deliveries than entries were made from the packet's record on: none is delivered twice.
use Rattle.theory_reaching.proofs.Words.{AreFresh, Bool, Full, Grown, Lab, List, Option, Some, [], ap, arith, false, false≢true, is_number, length, nat_tests, on_wire, refl, suc, sym, true, was_delivered, wire, zero, ℕ, ◌++◌, ◌+◌, ◌<◌, ◌==◌, ◌||◌, ◌∙◌, ◌∷◌, ◌≡◌, ◌≤◌}
use Rattle.theory_reaching.proofs.schedules.Undelivered.{longer}

-- one where it is so
abbrev pub one_if : Bool → ℕ
one_if true = 1
one_if false = 0

-- how many of so many numbers from the first one on were delivered
abbrev delivered_of : List Full → ℕ → ℕ → ℕ
delivered_of later first zero = 0
delivered_of later first (suc m) = one_if (was_delivered (first + m) later) + delivered_of later first m

at_most_one : (b : Bool) (m rest : ℕ) → rest ≤ m → one_if b + rest ≤ suc m
at_most_one true m rest le = omega (arith, le)
at_most_one false m rest le = omega (arith, le)

no_more_than : (later : List Full) (first m : ℕ) → delivered_of later first m ≤ m
no_more_than later first zero = omega arith
no_more_than later first (suc m) = at_most_one (was_delivered (first + m) later) m (delivered_of later first m) (no_more_than later first m)

none_of : (first m : ℕ) → delivered_of [] first m ≡ 0
none_of first zero = refl
none_of first (suc m) = let rest = none_of first m in omega (arith, rest)

-- ONE MORE DELIVERY

-- a record that delivers an entry, after others
record DeliveryOf : Type 0 where
  k : ℕ
  first : ℕ
  q : Full
  later : List Full
  by : q.delivered ≡ Some k

module _ (delivery_of : DeliveryOf) where
  open delivery_of use {k, first, q, later, by}

  it_delivers : (i : ℕ) → was_delivered i (q ∷ later) ≡ ((k == i) || was_delivered i later)
  it_delivers i = ap (λ (o : Option ℕ). is_number i o || was_delivered i later) by

  -- of another number
  other : (i : ℕ) → (k == i) ≡ false → was_delivered i (q ∷ later) ≡ was_delivered i later
  other i apart = it_delivers i ∙ ap (λ (b : Bool). b || was_delivered i later) apart

  apart_from : (i : ℕ) → (k ≡ i → ⊥) → (k == i) ≡ false
  apart_from i ne = grind (arith, nat_tests)

  -- beyond these numbers
  beyond : (m : ℕ) → first + m ≤ k → delivered_of (q ∷ later) first m ≡ delivered_of later first m
  beyond zero far = refl
  beyond (suc m) far =
      let more : first + m ≤ k = closer m far in
      ap (λ (b : Bool). one_if b + delivered_of (q ∷ later) first m) (other (first + m) (apart_from (first + m) (further m far)))
      ∙ ap (λ (n : ℕ). one_if (was_delivered (first + m) later) + n) (beyond m more) where
        closer : (m : ℕ) → first + suc m ≤ k → first + m ≤ k
        closer m far = omega (arith, far)

        further : (m : ℕ) → first + suc m ≤ k → k ≡ first + m → ⊥
        further m far same = omega (arith, far, same)

  -- one more where this number is
  by_one : (b c : Bool) (x y : ℕ) → b ≡ true → c ≡ false → x ≡ y → one_if b + x ≡ suc (one_if c + y)
  by_one true false x y e f same = omega (arith, same)
  by_one true true x y e f same = absurd (false≢true (sym f))
  by_one false c x y e f same = absurd (false≢true e)

  -- or further down
  by_rest : (b c : Bool) (x y : ℕ) → b ≡ c → x ≡ suc y → one_if b + x ≡ suc (one_if c + y)
  by_rest true true x y e same = omega (arith, same)
  by_rest false false x y e same = omega (arith, same)
  by_rest true false x y e same = absurd (false≢true (sym e))
  by_rest false true x y e same = absurd (false≢true e)

  -- among them
  among : (m : ℕ) → first ≤ k → k < first + m → was_delivered k later ≡ false → delivered_of (q ∷ later) first m ≡ suc (delivered_of later first m)
  among zero low high once = absurd (none low high) where
    none : first ≤ k → k < first + 0 → ⊥
    none low high = omega (arith, low, high)
  among (suc m) low high once = at (k == first + m) refl (among m low) where
    at : (b : Bool) → (k == first + m) ≡ b
        → (k < first + m → was_delivered k later ≡ false → delivered_of (q ∷ later) first m ≡ suc (delivered_of later first m))
        → delivered_of (q ∷ later) first (suc m) ≡ suc (delivered_of later first (suc m))
    at true same ih =
        let is : k ≡ first + m = grind (arith, nat_tests) in
        by_one (was_delivered (first + m) (q ∷ later)) (was_delivered (first + m) later) (delivered_of (q ∷ later) first m) (delivered_of later first m)
        (it_delivers (first + m) ∙ ap (λ (b : Bool). b || was_delivered (first + m) later) same)
        (ap (λ (i : ℕ). was_delivered i later) (sym is) ∙ once) (beyond m (most is))
      where
        most : k ≡ first + m → first + m ≤ k
        most is = omega (arith, is)
    at false apart ih =
        by_rest (was_delivered (first + m) (q ∷ later)) (was_delivered (first + m) later) (delivered_of (q ∷ later) first m) (delivered_of later first m)
        (other (first + m) apart) (ih (less apart high) once)
      where
        less : (k == first + m) ≡ false → k < first + suc m → k < first + m
        less apart far = grind (arith, nat_tests)

-- THE SCHEDULE

module _ (lab : Lab) (H : List Full) (r : Full) where
  as_many : (later : List Full) (m : ℕ) → Grown lab (later ++ r ∷ H) → AreFresh r later → length (wire (later ++ r ∷ H)) ≤ r.first + m
      → length later ≡ delivered_of later r.first m
  as_many [] m g fresh long = sym (none_of r.first m)
  as_many (q ∷ later) m g fresh long =
      let more = longer lab (later ++ r ∷ H) q in
      let before : length (wire (later ++ r ∷ H)) ≤ r.first + m = shorter (length (wire (later ++ r ∷ H))) (length (wire (q ∷ later ++ r ∷ H))) (r.first + m) more long in
      let within = on_wire lab (later ++ r ∷ H) q fresh.0.number g fresh.0.delivered in
      ap suc (as_many later m g.1 fresh.1 before)
      ∙ sym (among (record { k = fresh.0.number; first = r.first; q = q; later = later; by = fresh.0.delivered }) m fresh.0.new
      (below fresh.0.number (length (wire (later ++ r ∷ H))) (r.first + m) within before) fresh.0.once) where
        shorter : (a b c : ℕ) → a ≤ b → b ≤ c → a ≤ c
        shorter a b c le most = omega (arith, le, most)

        below : (a b c : ℕ) → a < b → b ≤ c → a < c
        below a b c less most = omega (arith, less, most)

  -- so many are the most where no more were made
  pub at_most : (later : List Full) (m : ℕ) → Grown lab (later ++ r ∷ H) → AreFresh r later → length (wire (later ++ r ∷ H)) ≤ r.first + m → length later ≤ m
  at_most later m g fresh long =
      let same = as_many later m g fresh long in
      let le = no_more_than later r.first m in
      omega (arith, same, le)
