-- Journals after one more record: those of other nodes stay, and what holds of one at a moment holds on at the same moment.
use Rattle.theory_first_packets.proofs.Words.{Full, Journal, Lab, List, Option, Some, ap, frame, journal, now, subst, sym, unwrap_or, ℕ, ◌∙◌, ◌∷◌, ◌≡◌}

-- the others' journals stay
pub other_journal : (lab : Lab) (H : List Full) (q : Full) (k n : ℕ) → q.node ≡ Some k → (k ≡ n → ⊥) → journal n (q ∷ H) ≡ journal n H
other_journal lab H q k n node apart = (frame lab H q).journals n (λ same. apart (ap (λ (o : Option ℕ). unwrap_or o k) (sym node ∙ same)))

-- what holds of a journal at a moment holds on at the same moment, where the journal is that
pub at_same_moment : (P : Journal → ℕ → Type 0) (H : List Full) (q : Full) (n : ℕ) (j : Journal) → q.moment ≡ now H → journal n (q ∷ H) ≡ j → P j (now H)
    → P (journal n (q ∷ H)) (now (q ∷ H))
at_same_moment P H q n j moment same holds = subst (λ (z : Journal). P z q.moment) (sym same) (subst (λ (m : ℕ). P j m) (sym moment) holds)
