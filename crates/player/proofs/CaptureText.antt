-- The pieces of a history's capture are a capture's bytes.
use Rattle.player.proofs.Words.{Bool, Captured, List, PiecesAreACapture, [], ap, append-nil, capture_head, capture_pieces, capture_records, concat, false, head_bytes, map, record_bytes, records_bytes, refl, ℕ, ◌++◌, ◌∙◌, ◌∷◌, ◌≡◌}

records_text : (little : Bool) (rs : List Captured) → concat (map (record_bytes little) rs) ≡ records_bytes little rs
records_text little [] = refl
records_text little (r ∷ rs) = ap (λ (x : List ℕ). record_bytes little r ++ x) (records_text little rs)

pub pieces_text : PiecesAreACapture
pieces_text lab H =
    ap concat (append-nil (capture_pieces lab.topology H))
    ∙ ap (λ (x : List ℕ). head_bytes capture_head ++ x) (records_text false (capture_records H))
