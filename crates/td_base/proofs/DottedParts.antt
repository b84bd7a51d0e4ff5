-- Four texts with dots between them, one after another.
use Rattle.td_base.proofs.Words.{List, [], ap, sym, ℕ, ◌++◌, ◌∙◌, ◌∷◌, ◌≡◌}
use Rattle.std.proofs.Common.{append_assoc}

one_part : (front part rest : List ℕ) → (front ++ (part ++ 46 ∷ [])) ++ rest ≡ front ++ (part ++ 46 ∷ rest)
one_part front part rest = append_assoc front (part ++ 46 ∷ []) rest ∙ ap (λ t. front ++ t) (append_assoc part (46 ∷ []) rest)

regrouped : (a b c d : List ℕ) → ((a ++ (46 ∷ b)) ++ (46 ∷ c)) ++ (46 ∷ d) ≡ a ++ (46 ∷ (b ++ (46 ∷ (c ++ (46 ∷ d)))))
regrouped a b c d = append_assoc (a ++ (46 ∷ b)) (46 ∷ c) (46 ∷ d) ∙ append_assoc a (46 ∷ b) (46 ∷ (c ++ (46 ∷ d)))

pub four_parts : (front a b c d : List ℕ) → (((front ++ (a ++ 46 ∷ [])) ++ (b ++ 46 ∷ [])) ++ (c ++ 46 ∷ [])) ++ d ≡ front ++ (((a ++ (46 ∷ b)) ++ (46 ∷ c)) ++ (46 ∷ d))
four_parts front a b c d =
    one_part ((front ++ (a ++ 46 ∷ [])) ++ (b ++ 46 ∷ [])) c d
    ∙ one_part (front ++ (a ++ 46 ∷ [])) b (c ++ (46 ∷ d))
    ∙ one_part front a (b ++ (46 ∷ (c ++ (46 ∷ d))))
    ∙ ap (λ t. front ++ t) (sym (regrouped a b c d))
