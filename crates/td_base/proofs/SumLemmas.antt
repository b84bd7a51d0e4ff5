-- The sum of joined lists of bytes, taken in steps.
use Rattle.td_base.proofs.Words.{List, StandsForSum, [], ap, arith, big_bytes, folded, halves_sum, length, refl, suc, sym, zero, ℕ, ◌%◌, ◌++◌, ◌+◌, ◌<◌, ◌^◌, ◌∙◌, ◌∷◌, ◌≡◌}
use Rattle.std.proofs.Common.{length-append}

pub halves_sum-append : (a b : List ℕ) → length a % 2 ≡ 0 → halves_sum (a ++ b) ≡ halves_sum a + halves_sum b
halves_sum-append [] b even = omega arith
halves_sum-append (x ∷ []) b even = absurd (omega arith)
halves_sum-append (x ∷ y ∷ a) b even =
    let rest : halves_sum (a ++ b) ≡ halves_sum a + halves_sum b = halves_sum-append a b (omega arith) in
    omega arith

-- a part that is folded already may be folded again with the rest
pub folded_again : (a b : ℕ) → folded (folded a + b) ≡ folded (a + b)
folded_again zero b = refl
folded_again (suc a) b =
    let left : suc (a % 65535) + b ≡ suc (a % 65535 + b) = omega arith in
    let right : suc a + b ≡ suc (a + b) = omega arith in
    let same : (a % 65535 + b) % 65535 ≡ (a + b) % 65535 = omega arith in
    rw (left, right) (ap suc same)

-- no bytes have been summed
pub nothing_summed : StandsForSum 0 []
nothing_summed = record { whole = refl; same = refl }

-- bytes are summed behind a front
pub front_summed : {n r : ℕ} {front : List ℕ} (bytes : List ℕ) → StandsForSum n front → r ≡ folded (n + halves_sum bytes) → r ≡ folded (halves_sum (front ++ bytes))
front_summed {n} {r} {front} bytes so_far is =
    let joined : halves_sum front + halves_sum bytes ≡ halves_sum (front ++ bytes) = sym (halves_sum-append front bytes so_far.whole) in
    is ∙ sym (folded_again n (halves_sum bytes)) ∙ ap (λ (k : ℕ). folded (k + halves_sum bytes)) so_far.same ∙ folded_again (halves_sum front) (halves_sum bytes) ∙ ap folded joined

-- whole halves are added behind a front, by their plain sum
pub added : {n : ℕ} {front : List ℕ} (m : ℕ) (bytes : List ℕ) → StandsForSum n front → length bytes % 2 ≡ 0 → m ≡ halves_sum bytes → StandsForSum (n + m) (front ++ bytes)
added {n} {front} m bytes so_far whole is =
    record { whole = omega (arith, length-append front bytes, so_far.whole); same = front_summed bytes so_far (ap (λ (k : ℕ). folded (n + k)) is) }

pub number_summed : (m : ℕ) → m < 2 ^ 16 → halves_sum (big_bytes 2 m) ≡ m
number_summed m small = omega arith

pub long_number_summed : (m : ℕ) → m < 2 ^ 16 → halves_sum (big_bytes 4 m) ≡ m
long_number_summed m small = omega arith
