-- Lines of tables that are passed.
use Rattle.theory_first_packets.proofs.Words.{Bool, List, [], ap, cond, false, first_line, refl, ◌++◌, ◌∙◌, ◌∷◌, ◌≡◌}

-- the tests of these lines fail
abbrev pub AllFail : {A : Type 0} → List (Bool × A) → Type 0
AllFail [] = Unit {0}
AllFail (line ∷ lines) = (line.0 ≡ false) × AllFail lines

-- so those behind them decide
pub passed_by : {A : Type 0} → (lines rest : List (Bool × A)) (last : A) → AllFail lines → first_line (lines ++ rest) last ≡ first_line rest last
passed_by [] rest last fails = refl
passed_by (line ∷ lines) rest last fails = ap (λ (b : Bool). cond b line.1 (first_line (lines ++ rest) last)) fails.0 ∙ passed_by lines rest last fails.1
