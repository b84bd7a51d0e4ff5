-- The checksum, summed in steps.
use Rattle.icmp6.proofs.Words.{List, [], arith, big_bytes, halves_sum, halves_sum-append, length, length-take, long_number_summed, number_at, refl, summed_head, take, ℕ, ◌%◌, ◌++◌, ◌+◌, ◌<◌, ◌^◌, ◌∷◌, ◌≡◌, ◌≤◌}
use Rattle.std.proofs.Common.{length-append}

front_sum : (x : List ℕ) → 4 ≤ length x → halves_sum (take 2 x ++ 0 ∷ 0 ∷ []) ≡ number_at 0 2 x
front_sum [] long = absurd (omega arith)
front_sum (a ∷ []) long = absurd (omega arith)
front_sum (a ∷ b ∷ rest) long = omega arith

-- length, next header and front as they are added at once
pub head_sum : (x : List ℕ) → 4 ≤ length x → length x < 2 ^ 16 → length x + 58 + number_at 0 2 x ≡ halves_sum (summed_head x)
head_sum x least most =
    let long : halves_sum (big_bytes 4 (length x)) ≡ length x = long_number_summed (length x) most in
    let next : halves_sum (big_bytes 4 58 ++ (take 2 x ++ 0 ∷ 0 ∷ [])) ≡ 58 + halves_sum (take 2 x ++ 0 ∷ 0 ∷ []) = halves_sum-append (big_bytes 4 58) (take 2 x ++ 0 ∷ 0 ∷ []) refl in
    omega (arith, halves_sum-append (big_bytes 4 (length x)) (big_bytes 4 58 ++ (take 2 x ++ 0 ∷ 0 ∷ [])) refl, long, next, front_sum x least)

pub head_whole : (x : List ℕ) → 4 ≤ length x → length (summed_head x) % 2 ≡ 0
head_whole x least = omega (arith, length-append (take 2 x) (0 ∷ 0 ∷ []), length-take 2 x)
