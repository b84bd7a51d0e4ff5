-- Which entries of a fresh schedule are undelivered: the direct bubble, if there is one, and the latest.
use Rattle.theory_first_packets.proofs.Words.{Bool, Full, List, Option, Some, [], ap, arith, false, false≢true, inl, inr, is_number, nat_tests, refl, suc, sym, true, was_delivered, zero, ℕ, ◌<◌, ◌==◌, ◌||◌, ◌∙◌, ◌∷◌, ◌≡◌, ◌≤◌, ◌⊎◌}

-- entries from `first` to `last`, of which these records delivered all but the first, where that is open, and the last, where
-- that is
pub record AreOpen (first last : ℕ) (first_open last_open : Bool) (later : List Full) : Type 0 where
  pub only : (i : ℕ) → first ≤ i → i ≤ last → was_delivered i later ≡ false → ((first_open ≡ true) × (i ≡ first)) ⊎ ((last_open ≡ true) × (i ≡ last))
  pub first_is : first_open ≡ true → (first < last) × (was_delivered first later ≡ false)
  pub last_is : last_open ≡ true → (first ≤ last) × (was_delivered last later ≡ false)
  pub none_beyond : (i : ℕ) → last < i → was_delivered i later ≡ false

-- a record that delivers number k, of others
delivers_it : (i k : ℕ) (q : Full) (later : List Full) → q.delivered ≡ Some k → was_delivered i (q ∷ later) ≡ ((k == i) || was_delivered i later)
delivers_it i k q later by = ap (λ (o : Option ℕ). is_number i o || was_delivered i later) by

-- an entry that is undelivered stays so where another one is delivered
another : (i k : ℕ) (q : Full) (later : List Full) → q.delivered ≡ Some k → (k ≡ i → ⊥) → was_delivered i later ≡ false → was_delivered i (q ∷ later) ≡ false
another i k q later by other still = delivers_it i k q later by ∙ with_test (k == i) refl where
  with_test : (b : Bool) → (k == i) ≡ b → (b || was_delivered i later) ≡ false
  with_test true e = absurd (other (grind (arith, nat_tests)))
  with_test false e = still

-- an entry that is undelivered: it was before, and is another one
record Was (i k : ℕ) (later : List Full) : Type 0 where
  other : k ≡ i → ⊥
  still : was_delivered i later ≡ false

was : (i k : ℕ) (q : Full) (later : List Full) → q.delivered ≡ Some k → was_delivered i (q ∷ later) ≡ false → Was i k later
was i k q later by h = with_test (k == i) refl (sym (delivers_it i k q later by) ∙ h) where
  with_test : (b : Bool) → (k == i) ≡ b → (b || was_delivered i later) ≡ false → Was i k later
  with_test true e g = absurd (false≢true (sym g))
  with_test false e g = record { other = λ same. (let one : (k == i) ≡ true = grind (arith, nat_tests) in false≢true (sym e ∙ one)); still = g }

module _ (first last : ℕ) (q : Full) (later : List Full) where
  -- the first is delivered
  pub without_first : (last_open : Bool) → AreOpen first last true last_open later → q.delivered ≡ Some first → AreOpen first last false last_open (q ∷ later)
  without_first o are by = record {
    only = λ i low high h. (let w = was i first q later by h in absurd_first i w (are.only i low high w.still));
    first_is = λ closed. absurd (false≢true closed);
    last_is = λ there. (
      (are.last_is there).0,
      (let less = (are.first_is refl).0 in another last first q later by (λ same. omega (arith, less, same))
          (are.last_is there).1),
    );
    none_beyond = λ i far. (let less = (are.first_is refl).0 in another i first q later by (λ same. omega (arith, less, same, far)) (are.none_beyond i far));
  } where
    absurd_first : (i : ℕ) → Was i first later → ((true ≡ true) × (i ≡ first)) ⊎ ((o ≡ true) × (i ≡ last))
        → ((false ≡ true) × (i ≡ first)) ⊎ ((o ≡ true) × (i ≡ last))
    absurd_first i w (inl e) = absurd (w.other (sym e.1))
    absurd_first i w (inr e) = inr e

  -- the last is delivered, and one more entry made
  pub with_next : (first_open : Bool) → AreOpen first last first_open true later → q.delivered ≡ Some last
      → AreOpen first (suc last) first_open true (q ∷ later)
  with_next o are by = record {
    only = λ i low high h. (let w = was i last q later by h in by_place i low high w (i == suc last) refl);
    first_is = λ there. (let less = (are.first_is there).0 in
        (omega (arith, less), another first last q later by (λ same. omega (arith, less, same)) (are.first_is there).1));
    last_is = λ _. (let low = (are.last_is refl).0 in (
      omega (arith, low),
      another (suc last) last q later by (λ same. omega (arith, same))
          (are.none_beyond (suc last) (omega arith)),
    ));
    none_beyond = λ i far. another i last q later by (λ same. omega (arith, same, far)) (are.none_beyond i (omega (arith, far)));
  } where
    of_old : (i : ℕ) → Was i last later → ((o ≡ true) × (i ≡ first)) ⊎ ((true ≡ true) × (i ≡ last))
        → ((o ≡ true) × (i ≡ first)) ⊎ ((true ≡ true) × (i ≡ suc last))
    of_old i w (inl e) = inl e
    of_old i w (inr e) = absurd (w.other (sym e.1))

    by_place : (i : ℕ) → first ≤ i → i ≤ suc last → Was i last later → (b : Bool) → (i == suc last) ≡ b
        → ((o ≡ true) × (i ≡ first)) ⊎ ((true ≡ true) × (i ≡ suc last))
    by_place i low high w true e = inr (refl, grind (arith, nat_tests))
    by_place i low high w false e =
        let ne : (i ≡ suc last → ⊥) = λ same. (let one : (i == suc last) ≡ true = grind (arith, nat_tests) in false≢true (sym e ∙ one)) in
        of_old i w (are.only i low (within i (suc last) high ne) w.still) where
          within : (a b : ℕ) → a ≤ suc last → (a ≡ suc last → ⊥) → a ≤ last
          within a b le ne = grind (arith, nat_tests)

  -- the last is delivered, and no more made
  pub without_last : (first_open : Bool) → AreOpen first last first_open true later → q.delivered ≡ Some last → AreOpen first last first_open false (q ∷ later)
  without_last o are by = record {
    only = λ i low high h. (let w = was i last q later by h in of_old i w (are.only i low high w.still));
    first_is = λ there. (let less = (are.first_is there).0 in (less, another first last q later by (λ same. omega (arith, less, same)) (are.first_is there).1));
    last_is = λ closed. absurd (false≢true closed);
    none_beyond = λ i far. another i last q later by (λ same. omega (arith, same, far)) (are.none_beyond i far);
  } where
    of_old : (i : ℕ) → Was i last later → ((o ≡ true) × (i ≡ first)) ⊎ ((true ≡ true) × (i ≡ last)) → ((o ≡ true) × (i ≡ first)) ⊎ ((false ≡ true) × (i ≡ last))
    of_old i w (inl e) = inl e
    of_old i w (inr e) = absurd (w.other (sym e.1))

-- one entry is open
pub one_open : (f : ℕ) → AreOpen f f false true []
one_open f = record {
  only = λ i low high h. inr (refl, omega (arith, low, high));
  first_is = λ closed. absurd (false≢true closed);
  last_is = λ _. (omega arith, refl);
  none_beyond = λ i far. refl;
}

-- as long as the packet hasn't come, the latest entry is open
abbrev pub is_open : ℕ → Bool
is_open zero = false
is_open (suc k) = true
