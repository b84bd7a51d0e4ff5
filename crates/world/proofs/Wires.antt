-- A wire that is cut is a wire.
use Rattle.world.proofs.Words.{AllByRecursion, Bool, IsShortEntry, IsWire, Item, List, [], arith, false, get_or-take, length, length-take-le, min, suc, sym, take, zero, ℕ, ◌∙◌, ◌∷◌, ◌≡◌, ◌≤◌}

pub all_take : {X : Type 0} (P : X → Type 0) (n : ℕ) (xs : List X) → AllByRecursion P xs → AllByRecursion P (take n xs)
all_take P zero xs all = tt
all_take P (suc n) [] all = tt
all_take P (suc n) (x ∷ xs) all = (all.0, all_take P n xs all.1)

pub cut_is_wire : (items : List Item) (done : List Bool) (low len : ℕ) → IsWire items done low → len ≤ length items → IsWire (take len items) (take len done) (min low len)
cut_is_wire items done low len (each, most, short, within, before) fits =
    let a : length (take len items) ≡ len = length-take-le len items fits in
    let b : length (take len done) ≡ len = length-take-le len done (omega (arith, each, fits)) in (
      b ∙ sym a,
      omega (arith, a, most, fits),
      all_take IsShortEntry len items short,
      omega (arith, a),
      λ i h. get_or-take len done i false (omega (arith, h)) ∙ before i (omega (arith, h)),
    )
