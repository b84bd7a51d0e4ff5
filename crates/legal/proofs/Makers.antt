-- Each entry of the wire has one maker.
use Rattle.legal.proofs.Words.{Bool, EachHasOneMaker, Full, HasOneMaker, List, Makes, [], ap, arith, false, items_of, leb-false, leb-true, length, nat_le, refl, slice_get, subst, suc, sym, true, wire, zero, ℕ, ◌++◌, ◌-◌, ◌<◌, ◌∙◌, ◌∷◌, ◌≡◌, ◌≤◌}
use Rattle.std.proofs.lemmas.List.{length-append}
use Rattle.legal.proofs.NextLaws.{next_is_of}

-- AN ELEMENT OF TWO LISTS JOINED

in_front : {A : Type 0} → (xs ys : List A) (n : ℕ) → n < length xs → slice_get (xs ++ ys) n ≡ slice_get xs n
in_front [] ys n h = absurd (omega (arith, h))
in_front (x ∷ xs) ys zero h = refl
in_front (x ∷ xs) ys (suc n) h = in_front xs ys n (omega (arith, h))

behind : {A : Type 0} → (xs ys : List A) (n : ℕ) → length xs ≤ n → slice_get (xs ++ ys) n ≡ slice_get ys (n - length xs)
behind [] ys n h = at (omega arith) where
  at : n ≡ n - 0 → slice_get ys n ≡ slice_get ys (n - 0)
  at e = ap (λ (k : ℕ). slice_get ys k) e
behind (x ∷ xs) ys zero h = absurd (omega (arith, h))
behind (x ∷ xs) ys (suc n) h =
    let less : n - length xs ≡ suc n - suc (length xs) = omega arith in
    behind xs ys n (omega (arith, h)) ∙ ap (λ (k : ℕ). slice_get ys k) less

-- SPLITS

abbrev rest_of : List Full → List Full
rest_of [] = []
rest_of (r ∷ H) = H

abbrev first_of : Full → List Full → Full
first_of q [] = q
first_of q (r ∷ H) = r

-- the wire only grows
no_longer : (l H : List Full) → length (wire H) ≤ length (wire (l ++ H))
no_longer [] H = omega arith
no_longer (r ∷ l) H =
    let before : length (wire H) ≤ length (wire (l ++ H)) = no_longer l H in
    omega (arith, before, length-append (wire (l ++ H)) (items_of r))

-- what made an entry that the records before r hadn't is r
latest_only : (r : Full) (H : List Full) (n : ℕ) → length (wire H) ≤ n → (l e : List Full) (q : Full) → Makes (r ∷ H) n l q e → (l ≡ []) × (q ≡ r) × (e ≡ H)
latest_only r H n begins [] e q makes = (refl, ap (first_of r) (sym makes.split), ap rest_of (sym makes.split))
latest_only r H n begins (x ∷ l) e q makes =
    let rest : H ≡ l ++ q ∷ e = ap rest_of makes.split in
    let grown : length (wire (q ∷ e)) ≤ length (wire H) = subst (λ (z : List Full). length (wire (q ∷ e)) ≤ length (wire z)) (sym rest) (no_longer l (q ∷ e)) in
    absurd (omega (arith, begins, grown, makes.ends))

-- what made an entry that they had is what made it among them
earlier_only : (r : Full) (H : List Full) (n : ℕ) → n < length (wire H) → (one : HasOneMaker H n) → (l e : List Full) (q : Full) → Makes (r ∷ H) n l q e
    → (l ≡ r ∷ one.later) × (q ≡ one.maker) × (e ≡ one.earlier)
earlier_only r H n ends one [] e q makes =
    let same : e ≡ H = ap rest_of (sym makes.split) in
    let begins : length (wire H) ≤ n = subst (λ (z : List Full). length (wire z) ≤ n) same makes.begins in
    absurd (omega (arith, ends, begins))
earlier_only r H n ends one (x ∷ l) e q makes =
    let only = one.only l e q (record { split = ap rest_of makes.split; begins = makes.begins; ends = makes.ends }) in
    let latest : x ≡ r = ap (first_of r) (sym makes.split) in
    (ap (λ (z : Full). z ∷ l) latest ∙ ap (λ (z : List Full). r ∷ z) only.0, only.1, only.2)

-- MAKERS

latest : (r : Full) (H : List Full) (n : ℕ) → r.first ≡ length (wire H) → length (wire H) ≤ n → n < length (wire (r ∷ H)) → HasOneMaker (r ∷ H) n
latest r H n first begins ends = record {
  later = [];
  maker = r;
  earlier = H;
  makes = record { split = refl; begins = begins; ends = ends };
  first = first;
  item = sym (behind (wire H) (items_of r) n begins);
  only = latest_only r H n begins;
}

among_earlier : (r : Full) (H : List Full) (n : ℕ) → n < length (wire H) → HasOneMaker H n → HasOneMaker (r ∷ H) n
among_earlier r H n ends one = record {
  later = r ∷ one.later;
  maker = one.maker;
  earlier = one.earlier;
  makes = record { split = ap (λ (z : List Full). r ∷ z) one.makes.split; begins = one.makes.begins; ends = one.makes.ends };
  first = one.first;
  item = one.item ∙ sym (in_front (wire H) (items_of r) n ends);
  only = earlier_only r H n ends one;
}

pub one_maker : EachHasOneMaker
one_maker lab [] n g within = absurd (omega (arith, within))
one_maker lab (r ∷ H) n g within = by (one_maker lab H n g.1) (nat_le (length (wire H)) n) refl where
  first : r.first ≡ length (wire H)
  first = ap (λ (z : Full). z.first) g.0.is ∙ (next_is_of lab H r.event r.asked).first

  by : (n < length (wire H) → HasOneMaker H n) → (b : Bool) → nat_le (length (wire H)) n ≡ b → HasOneMaker (r ∷ H) n
  by ih true e = latest r H n first (leb-true _ _ e) within
  by ih false e = let ends : n < length (wire H) = leb-false _ _ e in among_earlier r H n ends (ih ends)
