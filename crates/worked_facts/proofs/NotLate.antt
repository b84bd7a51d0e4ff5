-- A complete schedule that hands nothing over late doesn't carry the first packet of a native host.
use Rattle.worked_facts.proofs.Words.{Bool, Full, GetsFromNative, HasArrivedLate, Lab, List, Some, [], ap, drop, false, false≢true, inl, inr, length, map, slice_get, suc, sym, take, true, wire, ℕ, ◌-◌, ◌∙◌, ◌∷◌, ◌≡◌}
use Rattle.worked_facts.proofs.FirstPacketViews.{left_from, complete_if}
use Rattle.worked_facts.proofs.NativeViews.{Three, NativePacket, native_packet, seen_of}

-- nothing was handed over late
abbrev pub is_none_late : List (List ℕ) → Bool
is_none_late [] = true
is_none_late ([] ∷ rest) = is_none_late rest
is_none_late (sizes ∷ rest) = false

not_late : (n : ℕ) (x : List ℕ) (later : List Full) → is_none_late (map (λ (z : Full). map (λ (x : List ℕ). length x) z.late) later) ≡ true
    → HasArrivedLate n x later → ⊥
not_late n x [] none come = come
not_late n x (q ∷ later) none (inl a) = false≢true (ap (λ (xs : List (List ℕ)). is_none_late (map (λ (y : List ℕ). length y) xs
    ∷ map (λ (z : Full). map (λ (y : List ℕ). length y) z.late) later)) (sym a.packet) ∙ none)
not_late n x (q ∷ later) none (inr come) = by (map (λ (y : List ℕ). length y) q.late) none (λ e. not_late n x later e come) where
  by : (sizes : List ℕ) → is_none_late (sizes ∷ map (λ (z : Full). map (λ (y : List ℕ). length y) z.late) later) ≡ true
      → (is_none_late (map (λ (z : Full). map (λ (y : List ℕ). length y) z.late) later) ≡ true → ⊥) → ⊥
  by [] e ih = ih e
  by (size ∷ sizes) e ih = false≢true e

-- a complete schedule that hands nothing over late doesn't carry it
pub not_carried_late : (lab : Lab) (t : Three) (i : ℕ) (H : List Full) (p : NativePacket) → native_packet lab t i H ≡ Some p → p.left ≡ []
    → is_none_late p.late ≡ true → (q : Full) → slice_get H i ≡ Some q → (x : List ℕ) → GetsFromNative (drop (suc i) H) q t.n t.own x (take i H) → ⊥
not_carried_late lab t i H p seen left none q at x carried =
    let is = seen_of lab t i H p seen q at in
    let nothing : left_from (take i H) q.first (length (wire H) - q.first) ≡ [] = ap (λ (z : NativePacket). z.left) is ∙ left in
    not_late t.n x (take i H) (ap (λ (z : NativePacket). is_none_late z.late) is ∙ none) (carried.arrives (complete_if i H q at nothing))
