-- The bytes that hexadecimal digits say.
use Rattle.events.proofs.Words.{Err, FromHexError, List, None, Ok, Result, Some, [], and-false, arith, decode_of, decode_of-ok, false, few_bytes, hex_of, hex_on_literals, le-leb, length, lt-leb, nat_le, refl, result_ok, true, ℕ, ◌/◌, ◌<◌, ◌∷◌, ◌≡◌, ◌≤◌}
use Rattle.td_base.specs.Options.{◌>>=◌}

few : (most : ℕ) (bytes : List ℕ) → 1 ≤ length bytes → length bytes ≤ most → few_bytes most bytes ≡ Some bytes
few most bytes some le =
    let a : nat_le 1 (length bytes) ≡ true = le-leb _ _ some in
    let b : nat_le (length bytes) most ≡ true = le-leb _ _ le in
    rw (a, b) refl

too_many : (most : ℕ) (bytes : List ℕ) → most < length bytes → few_bytes most bytes ≡ None
too_many most bytes lt =
    let b : nat_le (length bytes) most ≡ false = lt-leb _ _ lt in
    rw (b, and-false (nat_le 1 (length bytes))) refl

too_long : (most : ℕ) (s : List ℕ) (r : Result (List ℕ) FromHexError) → decode_of s ≡ r → most < length s / 2 → (result_ok r >>= few_bytes most) ≡ None
too_long most s (Err f) e lt = refl
too_long most s (Ok bytes) e lt = too_many most bytes (omega (arith, decode_of-ok s bytes e))

-- digits of too many bytes
pub hex_of-long : (most : ℕ) (s : List ℕ) → most < length s / 2 → hex_of most s ≡ None
hex_of-long most s lt = too_long most s (decode_of s) refl lt

-- no digits
pub hex_of-none : (most : ℕ) (s : List ℕ) → length s ≡ 0 → hex_of most s ≡ None
unfolding hex_on_literals
hex_of-none most [] e = refl
hex_of-none most (c ∷ s) e = absurd (omega (arith, e))
