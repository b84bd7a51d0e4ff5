-- A table and a list of values beside the members and items that they stand for.
use Rattle.scenario.proofs.Words.{Bool, List, None, Option, Some, Value, [], arith, as_str, false, is_some, item_count, items_view, length, list_all, option_and_then, option_map, refl, texts_of, two_integers, view, ℕ, ◌&&◌, ◌<◌, ◌∷◌, ◌≡◌, ◌≤◌}

pub item_count_view : (vs : List Value) → item_count (items_view vs) ≡ length vs
item_count_view [] = refl
item_count_view (v ∷ vs) = omega (arith, item_count_view vs)

-- a list of fewer or more values than two
pub fewer_than_two : (vs : List Value) → length vs < 2 → two_integers (items_view vs) ≡ None
fewer_than_two [] h = refl
fewer_than_two (v ∷ []) h = refl
fewer_than_two (v ∷ w ∷ vs) h = absurd (omega (arith, h))

pub more_than_two : (vs : List Value) → 3 ≤ length vs → two_integers (items_view vs) ≡ None
more_than_two [] h = absurd (omega (arith, h))
more_than_two (v ∷ []) h = absurd (omega (arith, h))
more_than_two (v ∷ w ∷ []) h = absurd (omega (arith, h))
more_than_two (v ∷ w ∷ u ∷ vs) h = refl

-- lists whose values are texts
pub all_texts_are : (vs : List Value) → list_all (λ value. is_some (as_str (view value))) vs ≡ is_some (texts_of (items_view vs))
all_texts_are [] = refl
all_texts_are (v ∷ vs) = both (as_str (view v)) (texts_of (items_view vs)) (list_all (λ value. is_some (as_str (view value))) vs) (all_texts_are vs)
  where
    both : (text : Option (List ℕ)) (texts : Option (List (List ℕ))) (b : Bool) → b ≡ is_some texts → (is_some text && b) ≡ is_some (option_and_then (λ t. option_map (λ ts. t ∷ ts) texts) text)
    both None texts b e = refl
    both (Some t) None b e = e
    both (Some t) (Some ts) b e = e

pub none_of : {A : Type 0} (o : Option A) → is_some o ≡ false → o ≡ None
none_of None e = refl
none_of (Some x) e = absurd cc
