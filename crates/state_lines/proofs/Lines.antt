-- A line, which was begun, and behind that a fact and the end of the line were appended.
use Rattle.state_lines.proofs.Words.{List, ap, append_assoc, codes, ℕ, ◌++◌, ◌∙◌, ◌≡◌}

pub line_of : {begun told whole front : List ℕ} (fact : List ℕ) → begun ≡ front → told ≡ begun ++ fact → whole ≡ told ++ codes "\n"
    → whole ≡ front ++ (fact ++ codes "\n")
line_of {begun} {told} {whole} {front} fact e f g =
    g ∙ ap (λ (t : List ℕ). t ++ codes "\n") f ∙ append_assoc begun fact (codes "\n") ∙ ap (λ (t : List ℕ). t ++ (fact ++ codes "\n")) e
