-- Texts that were appended one after the other.
use Rattle.std.proofs.Common.{◌≡◌, ℕ, List, ◌++◌, ap, ◌∙◌}
use Rattle.std.proofs.lemmas.List.{append_assoc}

-- what a text is, of which a part was appended before the rest
pub before : {mid new : List ℕ} (old part rest : List ℕ) → mid ≡ old ++ part → new ≡ mid ++ rest → new ≡ old ++ (part ++ rest)
before {mid} {new} old part rest e f = f ∙ ap (λ (t : List ℕ). t ++ rest) e ∙ append_assoc old part rest
