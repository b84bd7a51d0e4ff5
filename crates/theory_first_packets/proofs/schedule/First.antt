-- The entries of the wire that the record of the first packet makes: one, or two.
use Rattle.theory_first_packets.proofs.Words.{Bool, Full, Item, List, Some, [], ap, arith, false, false≢true, filter_map, inl, inr, item_in, items_of, length, nat_tests, refl, sent, slice_get, suc, sym, true, wire, ℕ, ◌++◌, ◌==◌, ◌∙◌, ◌∷◌, ◌≡◌, ◌≤◌, ◌⊎◌}
use Rattle.theory_first_packets.proofs.schedule.Counted.{AreOpen}
use Rattle.theory_first_packets.proofs.tables.Lists.{last_there, one_longer}

-- one entry behind the wire
pub record OneFirst (H : List Full) (r : Full) (x : Item) : Type 0 where
  pub at : slice_get (wire (r ∷ H)) (length (wire H)) ≡ Some x
  pub longer : length (wire (r ∷ H)) ≡ suc (length (wire H))

pub one_first : (H : List Full) (r : Full) (x : Item) → r.made ≡ sent x ∷ [] → OneFirst H r x
one_first H r x made =
    let items : items_of r ≡ x ∷ [] = ap (filter_map item_in) made in
    record {
      at = ap (λ (xs : List Item). slice_get (wire H ++ xs) (length (wire H))) items ∙ last_there (wire H) x;
      longer = ap (λ (xs : List Item). length (wire H ++ xs)) items ∙ one_longer (wire H) x;
    }

-- two entries behind a list
pub first_of_two : {A : Type 0} → (xs : List A) (y z : A) → slice_get (xs ++ y ∷ z ∷ []) (length xs) ≡ Some y
first_of_two [] y z = refl
first_of_two (x ∷ xs) y z = first_of_two xs y z

pub second_of_two : {A : Type 0} → (xs : List A) (y z : A) → slice_get (xs ++ y ∷ z ∷ []) (suc (length xs)) ≡ Some z
second_of_two [] y z = refl
second_of_two (x ∷ xs) y z = second_of_two xs y z

pub two_longer : {A : Type 0} → (xs : List A) (y z : A) → length (xs ++ y ∷ z ∷ []) ≡ suc (suc (length xs))
two_longer [] y z = refl
two_longer (x ∷ xs) y z = ap suc (two_longer xs y z)

-- then both are open
pub two_open : (f : ℕ) → AreOpen f (suc f) true true []
two_open f = record {
  only = λ i low high h. by i low high (i == f) refl;
  first_is = λ _. (omega arith, refl);
  last_is = λ _. (omega arith, refl);
  none_beyond = λ i far. refl;
} where
  by : (i : ℕ) → f ≤ i → i ≤ suc f → (b : Bool) → (i == f) ≡ b → ((true ≡ true) × (i ≡ f)) ⊎ ((true ≡ true) × (i ≡ suc f))
  by i low high true e = inl (refl, grind (arith, nat_tests))
  by i low high false e =
      let ne : (i ≡ f → ⊥) = λ same. (let one : (i == f) ≡ true = grind (arith, nat_tests) in false≢true (sym e ∙ one)) in
      inr (refl, grind (arith, nat_tests))
