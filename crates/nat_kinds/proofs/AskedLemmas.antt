-- Whom the inside endpoints asked: what is left once old moments are taken out.
use Rattle.nat_kinds.proofs.Words.{AllByRecursion, Bool, IsDistinct, IsDistinct-head, IsDistinct-tail, List, Millis, None, Some, Way, [], ap, arith, asked_at, cond, false, filter, is_recent, keys_of, le-ltb, lookup, ltb-false, nat_lt, refl, same_way, same_way-true, subst, sym, true, ℕ, ◌-◌, ◌∙◌, ◌∷◌, ◌≡◌, ◌≤◌}

none_from_keys : (way : Way) (es : List (Way × Millis)) → AllByRecursion (λ k. same_way way k ≡ false) (keys_of es) → lookup (same_way way) es ≡ None
none_from_keys way [] a = refl
none_from_keys way (e ∷ es) a = ap (λ b. cond b (Some e.1) (lookup (same_way way) es)) a.0 ∙ none_from_keys way es a.1

pub recent_left : (idle now n : ℕ) (way : Way) (es : List (Way × Millis)) → now ≤ n → IsDistinct same_way (keys_of es) → is_recent idle n (asked_at (filter (λ e. nat_lt (now - e.1.0) idle) es) way) ≡ is_recent idle n (asked_at es way)
recent_left idle now n way [] l d = refl
recent_left idle now n way (e ∷ es) l d = by_cases (nat_lt (now - e.1.0) idle) refl (same_way way e.0) refl (recent_left idle now n way es l (IsDistinct-tail same_way e.0 (keys_of es) d))
  where
    left : List (Way × Millis)
    left = filter (λ e. nat_lt (now - e.1.0) idle) es

    by_cases : (y : Bool) → nat_lt (now - e.1.0) idle ≡ y → (b : Bool) → same_way way e.0 ≡ b
        → is_recent idle n (asked_at left way) ≡ is_recent idle n (asked_at es way)
        → is_recent idle n (asked_at (cond y (e ∷ left) left) way) ≡ is_recent idle n (cond b (Some e.1) (asked_at es way))
    by_cases true y true h i = ap (λ b. is_recent idle n (cond b (Some e.1) (asked_at left way))) h
    by_cases true y false h i = ap (λ b. is_recent idle n (cond b (Some e.1) (asked_at left way))) h ∙ i
    by_cases false y false h i = i
    by_cases false y true h i =
        let none : asked_at es way ≡ None = none_from_keys way es (subst (λ (w : Way). AllByRecursion (λ k. same_way w k ≡ false) (keys_of es)) (sym (same_way-true way e.0 h)) (IsDistinct-head same_way e.0 (keys_of es) d)) in
        i ∙ ap (is_recent idle n) none ∙ sym (le-ltb _ _ (let k : idle ≤ now - e.1.0 = ltb-false _ _ y in omega arith))

-- what is left was there, and is recent
pub left_recent : (idle now : ℕ) (way : Way) (m : Millis) (es : List (Way × Millis)) → IsDistinct same_way (keys_of es)
    → asked_at (filter (λ e. nat_lt (now - e.1.0) idle) es) way ≡ Some m → (asked_at es way ≡ Some m) × (is_recent idle now (Some m) ≡ true)
left_recent idle now way m [] d is = absurd (let g : None ≡ Some m = is in cc)
left_recent idle now way m (e ∷ es) d is = by_cases (nat_lt (now - e.1.0) idle) refl (same_way way e.0) refl (left_recent idle now way m es (IsDistinct-tail same_way e.0 (keys_of es) d)) is
  where
    left : List (Way × Millis)
    left = filter (λ e. nat_lt (now - e.1.0) idle) es

    by_cases : (y : Bool) → nat_lt (now - e.1.0) idle ≡ y → (b : Bool) → same_way way e.0 ≡ b
        → (asked_at left way ≡ Some m → (asked_at es way ≡ Some m) × (is_recent idle now (Some m) ≡ true))
        → asked_at (cond y (e ∷ left) left) way ≡ Some m → (cond b (Some e.1) (asked_at es way) ≡ Some m) × (is_recent idle now (Some m) ≡ true)
    by_cases true y true h rec i =
        let k : Some e.1 ≡ Some m = sym (ap (λ b. cond b (Some e.1) (asked_at left way)) h) ∙ i in
        let same : e.1 ≡ m = cc in
        (k, ap (λ (x : Millis). nat_lt (now - x.0) idle) (sym same) ∙ y)
    by_cases true y false h rec i = rec (sym (ap (λ b. cond b (Some e.1) (asked_at left way)) h) ∙ i)
    by_cases false y false h rec i = rec i
    by_cases false y true h rec i =
        let none : asked_at es way ≡ None = none_from_keys way es (subst (λ (w : Way). AllByRecursion (λ k. same_way w k ≡ false) (keys_of es)) (sym (same_way-true way e.0 h)) (IsDistinct-head same_way e.0 (keys_of es) d)) in
        absurd (let g : None ≡ Some m = sym none ∙ (rec i).0 in cc)
