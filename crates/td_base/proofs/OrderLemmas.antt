-- The order of addresses by their bytes is that of their halves as numbers.
use Rattle.td_base.proofs.Words.{Equal, Greater, Ip6, IsBytes, IsIp6, Less, List, Ordering, [], ap, arith, big_from, big_from-cons, big_from-lt, cases_lt, cmp_ip6, drop, drop_all, inl, inr, length, mul-le-mul_right, nat_cmp, nat_cmp_is, number_at, ordering_then, refl, slice_cmp, suc, sym, zero, ℕ, ◌*◌, ◌+◌, ◌<◌, ◌^◌, ◌∙◌, ◌∷◌, ◌≡◌, ◌≢◌, ◌≤◌}
use Rattle.std.proofs.lemmas.List.{length-drop}
use Rattle.td_base.proofs.BytesLemmas.{IsBytes-drop}
use Rattle.td_base.proofs.NumberLemmas.{HasHalves}

less : (m n : ℕ) → m < n → nat_cmp m n ≡ Less
less m n h = sym (nat_cmp_is m n Less h)

same : (m n : ℕ) → m ≡ n → nat_cmp m n ≡ Equal
same m n h = sym (nat_cmp_is m n Equal h)

greater : (m n : ℕ) → n < m → nat_cmp m n ≡ Greater
greater m n h = sym (nat_cmp_is m n Greater h)

-- two numbers that differ decide, and others leave it to what comes behind
pub decided : (m n : ℕ) (o : Ordering) → m ≢ n → nat_cmp m n ≡ ordering_then (nat_cmp m n) o
decided m n o differ =
    elim (cases_lt m n) [
      | inl lt ↦ less m n lt ∙ sym (ap (λ p. ordering_then p o) (less m n lt))
      | inr le ↦ elim (cases_lt n m) [
        | inl gt ↦ greater m n gt ∙ sym (ap (λ p. ordering_then p o) (greater m n gt))
        | inr ge ↦ absurd (differ (omega arith))
      ]
    ]

pub undecided : (m n : ℕ) (o : Ordering) → m ≡ n → o ≡ ordering_then (nat_cmp m n) o
undecided m n o one = sym (ap (λ p. ordering_then p o) (same m n one))

-- of two numbers in places below p, the higher places decide
below : (a b s t p : ℕ) → a < b → s < p → a * p + s < b * p + t
below a b s t p lt hs = omega (arith, mul-le-mul_right p lt)

-- and where they are the same, the lower
joined_same : (k s t : ℕ) → nat_cmp (k + s) (k + t) ≡ nat_cmp s t
joined_same k s t =
    elim (cases_lt s t) [
      | inl lt ↦ less (k + s) (k + t) (omega arith) ∙ sym (less s t lt)
      | inr le ↦ elim (cases_lt t s) [
        | inl gt ↦ greater (k + s) (k + t) (omega arith) ∙ sym (greater s t gt)
        | inr ge ↦ same (k + s) (k + t) (omega arith) ∙ sym (same s t (omega arith))
      ]
    ]

joined : (a b s t p : ℕ) → s < p → t < p → nat_cmp (a * p + s) (b * p + t) ≡ ordering_then (nat_cmp a b) (nat_cmp s t)
joined a b s t p hs ht =
    elim (cases_lt a b) [
      | inl lt ↦ less _ _ (below a b s t p lt hs) ∙ sym (ap (λ o. ordering_then o (nat_cmp s t)) (less a b lt))
      | inr le ↦ elim (cases_lt b a) [
        | inl gt ↦ greater _ _ (below b a t s p gt ht) ∙ sym (ap (λ o. ordering_then o (nat_cmp s t)) (greater a b gt))
        | inr ge ↦
            let one : a ≡ b = omega arith in
            ap (λ (k : ℕ). nat_cmp (a * p + s) (k * p + t)) (sym one) ∙ joined_same (a * p) s t ∙ sym (ap (λ o. ordering_then o (nat_cmp s t)) (same a b one))
      ]
    ]

grouped : (o p q : Ordering) → ordering_then (ordering_then o p) q ≡ ordering_then o (ordering_then p q)
grouped Less p q = refl
grouped Equal p q = refl
grouped Greater p q = refl

byte_tail : (a : ℕ) (x : List ℕ) → IsBytes (a ∷ x) → IsBytes x
byte_tail a x h i = h (suc i)

-- the first n bytes decide as the number in them, and then what follows
by_number : (n : ℕ) (x y : List ℕ) → IsBytes x → IsBytes y → n ≤ length x → n ≤ length y →
    slice_cmp nat_cmp x y ≡ ordering_then (nat_cmp (big_from 0 n x) (big_from 0 n y)) (slice_cmp nat_cmp (drop n x) (drop n y))
by_number zero x y hx hy fx fy = refl
by_number (suc n) [] y hx hy fx fy = absurd (omega arith)
by_number (suc n) (a ∷ x) [] hx hy fx fy = absurd (omega arith)
by_number (suc n) (a ∷ x) (b ∷ y) hx hy fx fy =
    let rest : Ordering = slice_cmp nat_cmp (drop n x) (drop n y) in
    let s : ℕ = big_from 0 n x in
    let t : ℕ = big_from 0 n y in
    let p : ℕ = 256 ^ n in
    let hx' = byte_tail a x hx in
    let hy' = byte_tail b y hy in
    ap (ordering_then (nat_cmp a b)) (by_number n x y hx' hy' (omega arith) (omega arith))
    ∙ sym (grouped (nat_cmp a b) (nat_cmp s t) rest)
    ∙ ap (λ o. ordering_then o rest) (sym (joined a b s t p (big_from-lt 0 n x hx') (big_from-lt 0 n y hy')))
    ∙ ap (λ (k : ℕ). ordering_then (nat_cmp (a * p + k) (b * p + t)) rest) (sym (big_from-cons 0 n a x))
    ∙ ap (λ (k : ℕ). ordering_then (nat_cmp (a * p + big_from 1 n (a ∷ x)) (b * p + k)) rest) (sym (big_from-cons 0 n b y))

then_equal : (o : Ordering) → ordering_then o Equal ≡ o
then_equal Less = refl
then_equal Equal = refl
then_equal Greater = refl

pub by_halves : (a b : Ip6) → IsIp6 a → IsIp6 b → cmp_ip6 a b ≡ ordering_then (nat_cmp (number_at 0 8 a.0) (number_at 0 8 b.0)) (nat_cmp (number_at 8 8 a.0) (number_at 8 8 b.0))
unfolding cmp_ip6
by_halves a b p q =
    let first : Ordering = nat_cmp (number_at 0 8 a.0) (number_at 0 8 b.0) in
    let last : Ordering = nat_cmp (number_at 8 8 a.0) (number_at 8 8 b.0) in
    by_number 8 a.0 b.0 p.1 q.1 (omega arith) (omega arith)
    ∙ ap (ordering_then first) (by_number 8 (drop 8 a.0) (drop 8 b.0) (IsBytes-drop 8 a.0 p.1) (IsBytes-drop 8 b.0 q.1) (omega (arith, length-drop 8 a.0)) (omega (arith, length-drop 8 b.0))
    ∙ ap (λ (x : List ℕ). ordering_then last (slice_cmp nat_cmp x (drop 8 (drop 8 b.0)))) (drop_all 8 (drop 8 a.0) (omega (arith, length-drop 8 a.0)))
    ∙ ap (λ (x : List ℕ). ordering_then last (slice_cmp nat_cmp [] x)) (drop_all 8 (drop 8 b.0) (omega (arith, length-drop 8 b.0)))
    ∙ then_equal last)

-- the same of numbers that are the halves
pub as_numbers : (a b : Ip6) (j k m n : ℕ) → HasHalves a j k → HasHalves b m n → ordering_then (nat_cmp j m) (nat_cmp k n) ≡ cmp_ip6 a b
as_numbers a b j k m n p q = rw (p.first_is, p.last_is, q.first_is, q.last_is) (sym (by_halves a b p.is q.is))
