use Rattle.td_audit.proofs.Words.{List, [], ap, arith, big_bytes, length, refl, slice_index_or, ℕ, ◌++◌, ◌∙◌, ◌∷◌, ◌≡◌}
use Rattle.td_audit.proofs.key.key_head.Goals as goal

-- four bytes one by one
four : (l rest : List ℕ) → length l ≡ 4
    → slice_index_or l 0 0 ∷ slice_index_or l 1 0 ∷ slice_index_or l 2 0 ∷ slice_index_or l 3 0 ∷ rest ≡ l ++ rest
four [] rest long = absurd (omega (arith, long))
four (a ∷ []) rest long = absurd (omega (arith, long))
four (a ∷ (b ∷ [])) rest long = absurd (omega (arith, long))
four (a ∷ (b ∷ (c ∷ []))) rest long = absurd (omega (arith, long))
four (a ∷ (b ∷ (c ∷ (d ∷ [])))) rest long = refl
four (a ∷ (b ∷ (c ∷ (d ∷ (e ∷ more))))) rest long = absurd (omega (arith, long))

two : List ℕ → List ℕ → List ℕ
two l rest = slice_index_or l 0 0 ∷ slice_index_or l 1 0 ∷ rest

pub returns : goal.returns
unfolding two
returns c =
    let s = c.args.src.ip.0 in
    let d = c.args.dst.ip.0 in
    let p = c.to_be_bytes.result in
    let q = c.to_be_bytes-2.result in
    let last : List ℕ = big_bytes 2 c.args.dst.port in
    four s (two p (slice_index_or d 0 0 ∷ slice_index_or d 1 0 ∷ slice_index_or d 2 0 ∷ slice_index_or d 3 0 ∷ two q [])) (omega arith)
    ∙ ap (λ (t : List ℕ). s ++ two p t) (four d (two q []) (omega arith))
    ∙ ap (λ (x : List ℕ). s ++ two p (d ++ two x [])) c.to_be_bytes-2.ensures
    ∙ ap (λ (x : List ℕ). s ++ two x (d ++ last)) c.to_be_bytes.ensures
