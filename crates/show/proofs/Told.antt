-- What stands on a page that was empty.
use Rattle.std.proofs.Common.{◌≡◌, false, ltb, ℕ, ◌<◌, List, [], ◌++◌, length, Some, None, Result, Err, sym, ap, ◌∙◌, arith}
use Rattle.std.specs.Prelude.{is_ok}
use Rattle.std.proofs.lemmas.Bool.{lt-ltb, cond-true}
use Rattle.bubble.specs.declared.fault.PayloadFault.TheVariants as faults
use Rattle.bubble.specs.Payloads.{payload_at}
use Rattle.show.specs.Words.{bad_place, bytes_said}
use Rattle.show.specs.Faults.{hex_fault_line, fault_line}
use Rattle.show.specs.Explained.{payload_text, bytes_text, word_text, explained, text_of}

-- a line that is one of a fault
pub fault_told : (old new line : List ℕ) (t : Result (List ℕ) (List ℕ)) → old ≡ [] → new ≡ old ++ line → t ≡ Err line → (new ≡ text_of t) × (false ≡ is_ok t)
fault_told old new line t empty e is = (e ∙ ap (λ (o : List ℕ). o ++ line) empty ∙ ap text_of (sym is), ap is_ok (sym is))

-- too many bytes
pub long_text : (x : List ℕ) (n : ℕ) → n ≡ length x → 1400 < n → bytes_text x ≡ Err (fault_line (faults.Long n))
unfolding payload_at
long_text x n len long =
    ap (payload_text x) (cond-true (ltb 1400 (length x)) _ _ (lt-ltb 1400 (length x) (omega (arith, len, long)))) ∙ ap (λ (m : ℕ). let t : Result (List ℕ) (List ℕ) = Err (fault_line (faults.Long m)) in t) (sym len)

-- no hexadecimal text
pub bad_text : (word : List ℕ) (place : ℕ) → bad_place word ≡ Some place → explained word ≡ Err (hex_fault_line place)
unfolding explained
bad_text word place e = ap (word_text word) e

-- hexadecimal text
pub good_text : (word : List ℕ) → bad_place word ≡ None → explained word ≡ bytes_text (bytes_said word)
unfolding explained
good_text word e = ap (word_text word) e
