-- Hexadecimal text, and the bytes that it says.
use Rattle.std.proofs.Common.{◌≡◌, true, false, Bool, cond, ltb, ℕ, ◌*◌, ◌/◌, ◌%◌, ◌<◌, ◌≤◌, ◌==◌, ◌⊎◌, inl, inr, List, [], length, take, get_or, Option, Some, None, Result, Ok, Err, refl, sym, ap, subst, ◌∙◌, arith}
use Rattle.std.specs.Prelude.{MatchResult, position}
use Rattle.std.specs.Char.{is_ascii_hexdigit}
use Rattle.std.specs.List.{AllPass, position_or_len}
use Rattle.std.specs.Option.{option_or}
use Rattle.std.specs.Result.{result_unwrap_or}
use Rattle.std.proofs.lemmas.Bool.{ltb-true, ltb-false, eqb-true, eqb-false, not-true, not-false}
use Rattle.std.proofs.lemmas.List.{length-take-le, length-take, get_or-take}
use Rattle.std.proofs.lemmas.List.Sums.{fails_before_first, passes_at_first}
use Rattle.hex.specs.Hex.{is_hex_digit, decode_of, decode_sized}
use Rattle.hex.specs.declared.error.FromHexError.{FromHexError}
use Rattle.hex.proofs.HexLemmas.{decode_of-digits, decode_of-ok, decode_sized-twice}
use Rattle.show.specs.Words.{is_other, bad_place, bytes_said}
use Rattle.show.specs.Shown.{IsBadPlace}

-- the two tests of a digit are one
same_digit : (c : ℕ) → is_ascii_hexdigit c ≡ is_hex_digit c
same_digit c = grind arith

-- where neither of the two tells a place
none_of_two : (o : Option ℕ) (b : Bool) (n : ℕ) → option_or o (cond b (Some n) None) ≡ None → (o ≡ None) × (b ≡ false)
none_of_two (Some i) b n h = absurd cc
none_of_two None true n h = absurd cc
none_of_two None false n h = (refl, refl)

-- where one of the two does
some_of_two : (o : Option ℕ) (b : Bool) (n place : ℕ) → option_or o (cond b (Some n) None) ≡ Some place → (o ≡ Some place) ⊎ ((o ≡ None) × (b ≡ true) × (place ≡ n))
some_of_two (Some i) b n place h = inl h
some_of_two None true n place h = inr (refl, refl, cc)
some_of_two None false n place h = absurd cc

none_passes : (b : Bool) (n : ℕ) → cond b (Some n) None ≡ None → b ≡ false
none_passes true n h = absurd cc
none_passes false n h = refl

one_passes : (b : Bool) (n place : ℕ) → cond b (Some n) None ≡ Some place → (b ≡ true) × (place ≡ n)
one_passes true n place h = (refl, cc)
one_passes false n place h = absurd cc

-- bytes before the first that is no digit are digits
digits_before : (word : List ℕ) (place : ℕ) → place ≤ position_or_len is_other word → AllPass is_ascii_hexdigit (take place word)
digits_before word place early = λ k d lt.
    let below : k < place = omega (arith, lt, length-take place word) in
    rw (get_or-take place word k d below) (not-false (is_ascii_hexdigit (get_or word k d)) (fails_before_first is_other word k d (omega arith)))

-- the place where a word is no hexadecimal text
pub bad_is : (word : List ℕ) (place : ℕ) → bad_place word ≡ Some place → IsBadPlace word place
unfolding bad_place
bad_is word place e =
    let first : ℕ = position_or_len is_other word in
    elim (some_of_two (position is_other word) (length word % 2 == 1) (length word) place e) [
      | inl found ↦
          let at = one_passes (ltb first (length word)) first place found in
          let inside : first < length word = ltb-true _ _ at.0 in
          let none = not-true (is_ascii_hexdigit (get_or word first 0)) (passes_at_first is_other word 0 inside) in
          rw at.1 (record { digits = digits_before word first (omega arith); other = inl (inside, none) })
      | inr odd ↦
          let past : length word ≤ first = ltb-false _ _ (none_passes (ltb first (length word)) first odd.0) in
          rw odd.2 (record { digits = digits_before word (length word) past; other = inr (refl, eqb-true (length word % 2) 1 odd.1) })
    ]

-- where no place is bad, there are digits alone, and an even number of them
all_digits : (word : List ℕ) → bad_place word ≡ None → (length word % 2 ≡ 0) × AllPass is_hex_digit word
unfolding bad_place
all_digits word good =
    let parts = none_of_two (position is_other word) (length word % 2 == 1) (length word) good in
    let past : length word ≤ position_or_len is_other word = ltb-false _ _ (none_passes (ltb (position_or_len is_other word) (length word)) _ parts.0) in
    let odd = eqb-false (length word % 2) 1 parts.1 in
    (omega (arith, odd), λ k d lt. sym (same_digit (get_or word k d)) ∙ not-false (is_ascii_hexdigit (get_or word k d)) (fails_before_first is_other word k d (omega arith)))

-- hexadecimal text says its bytes, and has two digits for each
pub decoded : (word : List ℕ) → bad_place word ≡ None → (decode_of word ≡ Ok (bytes_said word)) × (length word ≡ 2 * length (bytes_said word))
unfolding bytes_said
decoded word good =
    let parts = all_digits word good in
    let read = decode_of-digits word parts.0 parts.1 in
    let bytes : result_unwrap_or (decode_of word) [] ≡ read.0 = ap (λ (r : Result (List ℕ) FromHexError). result_unwrap_or r []) read.1 in
    let ok = decode_of-ok word read.0 read.1 in
    (read.1 ∙ ap Ok (sym bytes), ok.2 ∙ ap (λ (t : List ℕ). 2 * length t) (sym bytes))

-- what decodes has no bad place
pub decodes_well : (word x : List ℕ) → decode_of word ≡ Ok x → (place : ℕ) → bad_place word ≡ Some place → ⊥
decodes_well word x e place bad =
    let ok = decode_of-ok word x e in
    elim (bad_is word place bad).other [
      | inl here ↦ cc (sym here.1 ∙ same_digit (get_or word place 0) ∙ ok.1 place 0 here.0)
      | inr end ↦ absurd (omega (arith, end.1, ok.0))
    ]

-- hexadecimal text is decoded into a room of its length
pub written : (word new : List ℕ) (n : ℕ) (r : Result Unit FromHexError) → bad_place word ≡ None → length word ≡ 2 * n
    → MatchResult (decode_sized word n) (λ bytes. (r ≡ Ok tt) × (new ≡ bytes)) (λ e. r ≡ Err e) → (r ≡ Ok tt) × (new ≡ bytes_said word)
written word new n r good len given =
    let e : decode_sized word n ≡ Ok (bytes_said word) = decode_sized-twice word n len ∙ (decoded word good).0 in
    subst (λ (d : Result (List ℕ) FromHexError). MatchResult d (λ bytes. (r ≡ Ok tt) × (new ≡ bytes)) (λ e. r ≡ Err e)) e given

-- the front of a room that is long enough has the length of the bytes
pub room_fits : (word room : List ℕ) (m : ℕ) → length word ≡ 2 * m → length word / 2 ≤ 1400 → length room ≡ 1400 → length word ≡ 2 * length (take (length word / 2) room)
room_fits word room m two few long =
    let front = length-take-le (length word / 2) room (omega arith) in
    omega (arith, front)
