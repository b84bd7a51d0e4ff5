use Rattle.td_explain.proofs.Words.{List, [], arith, difference, drop, length, min, refl, zero, ℕ, ◌∷◌, ◌≡◌}
use Rattle.std.proofs.Common.{length-drop}
use Rattle.td_explain.proofs.difference.difference.Goals as goal

none_left : (xs ys : List ℕ) → min (length xs) (length ys) ≡ zero → difference xs ys ≡ zero
none_left [] ys none = refl
none_left (x ∷ xs) [] none = refl
none_left (x ∷ xs) (y ∷ ys) none = absurd (omega (arith, none))

pub returns : goal.returns
returns c =
    let one = c.args.one.now in
    let other = c.args.other.now in
    let at = c.loop-at.at in
    let far = c.loop-at.invariant.far in
    let none = none_left (drop at one) (drop at other) (omega (arith, length-drop at one, length-drop at other, c.min-most.ensures, c.loop-at-test.false)) in
    omega (arith, far, none, c.loop-at.invariant.within, c.loop-at-test.false)
