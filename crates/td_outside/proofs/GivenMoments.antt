-- The moments that a clock of the tests gave, with one more.
use Rattle.td_outside.proofs.Words.{Bool, List, Millis, [], after_moment, ap, append-nil, arith, count_end, drop, drop_all, drop_more, false, length, ltb-false, ltb-true, map, map-append, moment_of, nat_lt, option_and_then, raised, refl, replicate, replicate_more, slice_index_or, subst, sym, take, take_more, told_given, true, ℕ, ◌++◌, ◌+◌, ◌<◌, ◌∙◌, ◌∷◌, ◌≡◌, ◌≤◌}
use Rattle.std.proofs.Common.{append_assoc}

abbrev none : Millis
none = record { 0 = 0 }

-- The next moment stands at its place.
pub next_at : (ms : List Millis) (at : ℕ) → at < length ms → moment_of (drop at ms) ≡ slice_index_or ms at none
next_at ms at within = ap moment_of (drop_more ms at none within)

after_two : (m n : Millis) (rest coming : List Millis) → coming ≡ m ∷ n ∷ rest → after_moment coming ≡ n ∷ rest
after_two m n rest coming is = ap after_moment is

-- Then those behind it are to come,
pub after_at : (ms : List Millis) (at : ℕ) → at + 1 < length ms → drop (at + 1) ms ≡ after_moment (drop at ms)
after_at ms at within =
    let here = drop_more ms at none (omega (arith, within)) in
    let next = drop_more ms (at + 1) none within in
    next ∙ sym (after_two _ _ _ (drop at ms) (here ∙ ap (λ (l : List Millis). slice_index_or ms at none ∷ l) next))

-- and the last one stays.
pub after_last : (ms : List Millis) (at : ℕ) → at + 1 ≡ length ms → drop at ms ≡ after_moment (drop at ms)
after_last ms at last =
    let here = drop_more ms at none (omega (arith, last)) in
    let rest : drop (at + 1) ms ≡ [] = drop_all (at + 1) ms (omega (arith, last)) in
    let one : drop at ms ≡ slice_index_or ms at none ∷ [] = here ∙ ap (λ (l : List Millis). slice_index_or ms at none ∷ l) rest in
    one ∙ sym (ap after_moment one)

abbrev pub given_of : List Millis → ℕ → ℕ → List ℕ
given_of ms at again = map (λ (m : Millis). m.0) (take at ms ++ replicate again (moment_of (drop at ms)))

numbers : (xs ys : List Millis) (m : Millis) → ys ≡ xs ++ m ∷ [] → map (λ (m : Millis). m.0) ys ≡ map (λ (m : Millis). m.0) xs ++ m.0 ∷ []
numbers xs ys m is = ap (map (λ (m : Millis). m.0)) is ∙ map-append (λ (m : Millis). m.0) xs (m ∷ [])

pub given_next : (ms : List Millis) (at again : ℕ) → at < length ms → again ≡ 0 → given_of ms (at + 1) again ≡ given_of ms at again ++ (moment_of (drop at ms)).0 ∷ []
given_next ms at again within zero =
    subst (λ (n : ℕ). given_of ms (at + 1) n ≡ given_of ms at n ++ (moment_of (drop at ms)).0 ∷ []) (sym zero)
    (numbers (take at ms ++ []) (take (at + 1) ms ++ []) (moment_of (drop at ms))
    (append-nil (take (at + 1) ms) ∙ take_more ms at none within ∙ ap (λ (m : Millis). take at ms ++ m ∷ []) (sym (next_at ms at within)) ∙ ap (λ (l : List Millis). l ++ moment_of (drop at ms) ∷ []) (sym (append-nil (take at ms)))))

pub given_again : (ms : List Millis) (at again : ℕ) → given_of ms at (again + 1) ≡ given_of ms at again ++ (moment_of (drop at ms)).0 ∷ []
given_again ms at again =
    let m = moment_of (drop at ms) in
    numbers (take at ms ++ replicate again m) (take at ms ++ replicate (again + 1) m) m
    (ap (λ (l : List Millis). take at ms ++ l) (sym (replicate_more again m)) ∙ sym (append_assoc (take at ms) (replicate again m) (m ∷ [])))

-- It is told as long as the calls can be counted.
pub told_next : (made : ℕ) (list list' : List ℕ) (n : ℕ) → made ≤ count_end → (made < count_end → list' ≡ list ++ n ∷ [])
    → told_given (raised made) list' ≡ option_and_then (λ gave. told_given (raised made) (gave ++ n ∷ [])) (told_given made list)
told_next made list list' n most more = by (nat_lt made count_end) refl
  where
    by : (b : Bool) → nat_lt made count_end ≡ b → told_given (raised made) list' ≡ option_and_then (λ gave. told_given (raised made) (gave ++ n ∷ [])) (told_given made list)
    by true e = rw (e, more (ltb-true made count_end e)) refl
    by false e =
        let past : raised made ≡ count_end = omega (arith, ltb-false made count_end e) in
        rw (e, past) refl
