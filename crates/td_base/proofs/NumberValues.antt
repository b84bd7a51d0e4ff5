-- What a reader answers, as an option, and the numbers that texts are.
use Rattle.td_base.proofs.Words.{AllDigits, Bool, Decides-eqb, Err, IfOk, IsNumeralModel, List, None, Ok, Option, Result, Some, and_parts, arith, decimal, digits_value, digits_value-decimal, false, if◌then◌else◌, nat_le, nat_tests, number_of, numerals_by_value, pointwise_decides, refl, result_ok, same_Some, same_text, sym, tells_digits, true, ℕ, ◌&&◌, ◌<◌, ◌^◌, ◌↔◌, ◌≡◌, ◌≤◌}
use Rattle.td_base.specs.Options.{◌>>=◌}

-- the option has the value of which this holds, where there is one
abbrev pub Tells : {X : Type 0} → (X → Type 0) → Option X → Type 0
Tells {X} Is o = (x : X) → (o ≡ Some x) ↔ Is x

-- a reader that accepts the texts that are some value's, and no others
pub as_read : {X E : Type 0} (Is : X → Type 0) (r : Result X E) (o : Option X) → IfOk r Is → ((x : X) → Is x → r ≡ Ok x) → Tells Is o → result_ok r ≡ o
as_read Is (Ok x) o found only tells = sym ((tells x).1 found)
as_read Is (Err e) None found only tells = refl
as_read Is (Err e) (Some x) found only tells =
    let wrong : Err e ≡ Ok x = only x ((tells x).0 refl) in
    absurd cc

-- the value that a step gave
pub bind_some : {A B : Type 0} (o : Option A) (f : A → Option B) (y : B) → (o >>= f) ≡ Some y → (x : A) × (o ≡ Some x) × (f x ≡ Some y)
bind_some None f y e = absurd cc
bind_some (Some x) f y e = (x, refl, e)

-- what was kept, under a test
pub kept_some : {A : Type 0} (b : Bool) (o : Option A) (y : A) → (if b then o else None) ≡ Some y → (b ≡ true) × (o ≡ Some y)
kept_some true o y e = (refl, e)
kept_some false o y e = absurd cc

pub same_text-true : (a b : List ℕ) → same_text a b ≡ true → a ≡ b
same_text-true a b = (pointwise_decides Decides-eqb a b).0

pub same_text-self : (a b : List ℕ) → a ≡ b → same_text a b ≡ true
same_text-self a b = (pointwise_decides Decides-eqb a b).1

own : IsNumeralModel (AllDigits 10) (digits_value 10)
own = numerals_by_value _ tells_digits

pub number_of-sound : (most n : ℕ) (text : List ℕ) → number_of most text ≡ Some n → (n ≤ most) × (text ≡ decimal n)
unfolding number_of
number_of-sound most n text e =
    let k = kept_some (nat_le (digits_value 10 text) most && same_text text (decimal (digits_value 10 text))) (Some (digits_value 10 text)) n e in
    let value = same_Some _ _ k.1 in
    let both = and_parts (nat_le (digits_value 10 text) most) (same_text text (decimal (digits_value 10 text))) k.0 in
    let le : digits_value 10 text ≤ most = grind (arith, nat_tests) in
    let same : text ≡ decimal (digits_value 10 text) = same_text-true _ _ both.1 in
    (rw value at le, rw value at same)

pub number_of-decimal : (most n : ℕ) (text : List ℕ) → most < 2 ^ 64 → n ≤ most → text ≡ decimal n → number_of most text ≡ Some n
unfolding number_of
number_of-decimal most n text small le e =
    let value : digits_value 10 text ≡ n = rw e (digits_value-decimal own n (omega arith)) in
    let fits : nat_le n most ≡ true = grind (arith, nat_tests) in
    let same : same_text text (decimal n) ≡ true = same_text-self _ _ e in
    rw (value, fits, same) refl

pub number_back : (most n : ℕ) → most < 2 ^ 64 → n ≤ most → number_of most (decimal n) ≡ Some n
number_back most n small le = number_of-decimal most n (decimal n) small le refl

pub number_read : {E : Type 0} (most : ℕ) (text : List ℕ) (r : Result ℕ E) → most < 2 ^ 64 → IfOk r (λ n. (n ≤ most) × (text ≡ decimal n)) → ((n : ℕ) → n ≤ most → text ≡ decimal n → r ≡ Ok n) → result_ok r ≡ number_of most text
number_read most text r small found only =
    as_read (λ n. (n ≤ most) × (text ≡ decimal n)) r (number_of most text) found (λ n h. only n h.0 h.1) (λ n. (number_of-sound most n text, λ h. number_of-decimal most n text small h.0 h.1))
