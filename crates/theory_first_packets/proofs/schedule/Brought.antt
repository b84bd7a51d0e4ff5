-- What some record of a schedule, or one of its first ones, brings.
use Rattle.theory_first_packets.proofs.Words.{Full, IsWithin, List, SomeIs, [], ap, inl, inr, ℕ, ◌∷◌}

-- what is so of one of them follows for one
pub some_so : (P Q : Full → Type 0) → ((q : Full) → P q → Q q) → (later : List Full) → SomeIs P later → SomeIs Q later
some_so P Q so [] none = none
some_so P Q so (q ∷ later) (inl it) = inl (so q it)
some_so P Q so (q ∷ later) (inr come) = inr (some_so P Q so later come)

pub within_so : (P Q : Full → Type 0) → ((q : Full) → P q → Q q) → (most : ℕ) (later : List Full) → IsWithin most P later → IsWithin most Q later
within_so P Q so most later by = record { rest = by.rest; first = by.first; split = by.split; few = by.few; comes = some_so P Q so by.first by.comes }

-- one more record leaves what the first ones brought
pub within_longer : (P : Full → Type 0) (most : ℕ) (q : Full) (later : List Full) → IsWithin most P later → IsWithin most P (q ∷ later)
within_longer P most q later by = record {
  rest = q ∷ by.rest;
  first = by.first;
  split = ap (λ (qs : List Full). q ∷ qs) by.split;
  few = by.few;
  comes = by.comes;
}
