-- What holds of the attempts to send a step's datagrams, and of which of them failed.
use Rattle.std.proofs.Common.{◌≡◌, ◌+◌, ◌*◌, ◌<◌, ◌^◌, ℕ, Bool, true, false, not, cond, List, [], ◌∷◌, ◌++◌, length, count_by, count_ones, refl, ap, ◌∙◌, arith}
use Rattle.std.proofs.lemmas.Nat.{ones_cat, ones_le_self}
use Rattle.std.proofs.lemmas.List.Recursion.{is_count_by}
use Rattle.std.specs.Int.Count.{ones-ones}
use Rattle.td_outside.specs.Link.{Attempt, attempt}
use Rattle.teredo_node.specs.Step.{Send}
use Rattle.td_turns.specs.Turn.{attempts_of, failed_bits}

ones_bit : (n bit : ℕ) → bit < 2 → count_ones (2 * n + bit) ≡ count_ones n + count_ones bit
ones_bit n bit below =
    let double : 2 * n + bit ≡ n * 2 ^ 1 + bit = omega arith in
    ap count_ones double ∙ ones_cat 1 n bit below

ones_none : count_ones 0 ≡ 0
ones_none = omega (arith, ones_le_self 0)

ones_more : (sent : Bool) (answers : List Bool) → count_ones (failed_bits (sent ∷ answers))
    ≡ cond (not sent) (1 + count_ones (failed_bits answers)) (count_ones (failed_bits answers))
ones_more true answers = ones_bit (failed_bits answers) 0 (omega arith) ∙ omega (arith, ones_none)
ones_more false answers = ones_bit (failed_bits answers) 1 (omega arith) ∙ omega (arith, ones-ones 1)

-- As many bits are set as attempts failed.
pub ones_failed : (answers : List Bool) → count_ones (failed_bits answers) ≡ count_by not answers
ones_failed answers = is_count_by (λ (xs : List Bool). count_ones (failed_bits xs)) not ones_none ones_more answers

-- The attempts of two lists of datagrams are those of one and then of the other.
pub attempts_append : (xs ys : List Send) (first second : List Bool) → length first ≡ length xs
    → attempts_of (xs ++ ys) (first ++ second) ≡ attempts_of xs first ++ attempts_of ys second
attempts_append [] ys [] second same = refl
attempts_append [] ys (a ∷ first) second same = absurd (omega (arith, same))
attempts_append (x ∷ xs) ys [] second same = absurd (omega (arith, same))
attempts_append (x ∷ xs) ys (a ∷ first) second same =
    ap (λ (l : List Attempt). attempt x.side x.to x.bytes a ∷ l) (attempts_append xs ys first second (omega (arith, same)))
