-- One try more, before the latest ones.
use Rattle.peer_list.proofs.Words.{AreEarly, CLOCK_END_MS, List, Millis, TRIES_MAX, [], arith, get_or, length, map, min, refl, suc, take, zero, ℕ, ◌+◌, ◌<◌, ◌∷◌, ◌≡◌, ◌≤◌}
use Rattle.peer_list.proofs.TryLemmas.{all_taken}

abbrev moments : List Millis → List ℕ
moments ms = map (λ (m : Millis). m.0) ms

abbrev none : Millis
none = record { 0 = 0 }

pub pushed : (ms : List Millis) (n : ℕ) (m : Millis) → length ms ≡ TRIES_MAX → n ≤ TRIES_MAX
    → moments (take (min (n + 1) TRIES_MAX) (m ∷ get_or ms 0 none ∷ get_or ms 1 none ∷ get_or ms 2 none ∷ [])) ≡ m.0 ∷ take 3 (moments (take n ms))
pushed [] n m l k = absurd (omega arith)
pushed (a ∷ []) n m l k = absurd (omega arith)
pushed (a ∷ b ∷ []) n m l k = absurd (omega arith)
pushed (a ∷ b ∷ c ∷ []) n m l k = absurd (omega arith)
pushed (a ∷ b ∷ c ∷ d ∷ e ∷ ms) n m l k = absurd (omega arith)
pushed (a ∷ b ∷ c ∷ d ∷ []) zero m l k = refl
pushed (a ∷ b ∷ c ∷ d ∷ []) (suc zero) m l k = refl
pushed (a ∷ b ∷ c ∷ d ∷ []) (suc (suc zero)) m l k = refl
pushed (a ∷ b ∷ c ∷ d ∷ []) (suc (suc (suc zero))) m l k = refl
pushed (a ∷ b ∷ c ∷ d ∷ []) (suc (suc (suc (suc zero)))) m l k = refl
pushed (a ∷ b ∷ c ∷ d ∷ []) (suc (suc (suc (suc (suc n))))) m l k = absurd (omega arith)

pub early_pushed : (ms : List ℕ) (m : ℕ) → m < CLOCK_END_MS → AreEarly ms → AreEarly (m ∷ take 3 ms)
early_pushed ms m l a = (l, all_taken (λ (k : ℕ). k < CLOCK_END_MS) 3 ms a)

pub at_most : (n : ℕ) → min (n + 1) TRIES_MAX ≤ TRIES_MAX
at_most n = omega arith
