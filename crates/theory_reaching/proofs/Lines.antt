-- Which line of a table decided: one of those with an outcome of its kind held.
use Rattle.theory_reaching.proofs.Words.{Bool, List, [], cond, false, false≢true, first_line, inl, inr, refl, sym, true, ◌∙◌, ◌∷◌, ◌≡◌, ◌⊎◌}

-- this line, where its outcome is of the kind, or one of the others
abbrev pub OrRest : (of_kind : Bool) → Bool → Type 0 → Type 0
OrRest true test rest = (test ≡ true) ⊎ rest
OrRest false test rest = rest

-- the test of some line holds whose outcome is of the kind
abbrev pub SomeHolds : {A : Type 0} → (A → Bool) → List (Bool × A) → Type 0
SomeHolds kind [] = ⊥
SomeHolds kind (line ∷ lines) = OrRest (kind line.1) line.0 (SomeHolds kind lines)

-- so it is where the table's outcome is, and the last one isn't
pub which_held : {A : Type 0} → (kind : A → Bool) (lines : List (Bool × A)) (last : A) → kind last ≡ false → kind (first_line lines last) ≡ true
    → SomeHolds kind lines
which_held kind [] last other is = absurd (false≢true (sym other ∙ is))
which_held {A} kind (line ∷ lines) last other is = by (kind line.1) line.0 refl is (which_held kind lines last other) where
  by : (k t : Bool) → kind line.1 ≡ k → kind (cond t line.1 (first_line lines last)) ≡ true
      → (kind (first_line lines last) ≡ true → SomeHolds kind lines) → OrRest k t (SomeHolds kind lines)
  by true true same e ih = inl refl
  by true false same e ih = inr (ih e)
  by false true same e ih = absurd (false≢true (sym same ∙ e))
  by false false same e ih = ih e

-- one line alone has it
pub that_one : (t : Bool) → (t ≡ true) ⊎ ⊥ → t ≡ true
that_one t (inl e) = e
that_one t (inr none) = absurd none
