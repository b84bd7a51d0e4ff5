-- Tests that hold or fail.
use Rattle.theory_reaching.proofs.Words.{Bool, ap, false, false≢true, inl, inr, not, refl, sym, true, ◌&&◌, ◌||◌, ◌∙◌, ◌≡◌, ◌⊎◌}

-- what fails doesn't hold
pub elsewhere : {A : Type 0} → false ≡ true → A
elsewhere e = absurd (false≢true e)

pub failed : (b : Bool) → not b ≡ true → b ≡ false
failed true e = sym e
failed false e = refl

pub held : (b : Bool) → not b ≡ false → b ≡ true
held true e = refl
held false e = sym e

pub either : (b c : Bool) → (b || c) ≡ true → (b ≡ true) ⊎ (c ≡ true)
either true c e = inl refl
either false c e = inr e

-- one of two tests that don't both hold fails where the other one holds
pub second_fails : (b c : Bool) → (b && c) ≡ false → b ≡ true → c ≡ false
second_fails true c e there = e
second_fails false c e there = elsewhere there

pub first_fails : (b c : Bool) → (b && not c) ≡ false → c ≡ false → b ≡ false
first_fails false c e there = refl
first_fails true c e there = ap not (sym there ∙ held c e)

-- a test that holds and fails isn't there
pub never : {A : Type 0} → (b : Bool) → b ≡ true → b ≡ false → A
never true is isn't = absurd (false≢true (sym isn't))
never false is isn't = absurd (false≢true is)
