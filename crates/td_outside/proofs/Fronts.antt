-- What a buffer holds after a front of some bytes was copied to its front.
use Rattle.td_outside.proofs.Words.{List, ap, arith, length, length-take-le, min, subst, take, take-append_seam, take_min, ℕ, ◌++◌, ◌∙◌, ◌≡◌, ◌≤◌}

-- The front is the one that was meant, although it was cut to the bytes that there are.
pub cut : (most n : ℕ) (bytes got rest : List ℕ) → n ≡ min (length bytes) most → got ≡ take n bytes → take n (got ++ rest) ≡ take most bytes
cut most n bytes got rest is copied =
    let within : n ≤ length bytes = omega arith in
    let least : n ≡ min most (length bytes) = omega arith in
    let long : length got ≡ n = ap length copied ∙ length-take-le n bytes within in
    let front : take n (got ++ rest) ≡ got = subst (λ (m : ℕ). take m (got ++ rest) ≡ got) long (take-append_seam got rest) in
    front ∙ copied ∙ ap (λ (m : ℕ). take m bytes) least ∙ take_min most bytes
