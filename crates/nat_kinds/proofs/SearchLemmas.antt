-- What a search finds where another found something.
use Rattle.nat_kinds.proofs.Words.{Bool, List, None, Some, [], ap, cond, false, find, refl, sym, true, ◌∙◌, ◌∷◌, ◌≡◌}

-- where the first that passes q passes r too, some passes r
pub found_there : {X : Type 0} (q : X → Bool) (xs : List X) (x : X) → find q xs ≡ Some x → (r : X → Bool) → r x ≡ true → (y : X) × (find r xs ≡ Some y)
found_there q [] x f r t = absurd (let g : Some x ≡ None = sym f in cc)
found_there {X} q (z ∷ xs) x f r t = by_case (r z) refl (q z) f (λ i. found_there q xs x i r t)
  where
    by_case : (a : Bool) → r z ≡ a → (b : Bool) → cond b (Some z) (find q xs) ≡ Some x → (find q xs ≡ Some x → (y : X) × (find r xs ≡ Some y)) → (y : X) × (cond a (Some z) (find r xs) ≡ Some y)
    by_case true h b i k = (z, refl)
    by_case false h false i k = k i
    by_case false h true i k = absurd (let same : z ≡ x = cc in let g : true ≡ false = sym t ∙ ap r (sym same) ∙ h in cc)
