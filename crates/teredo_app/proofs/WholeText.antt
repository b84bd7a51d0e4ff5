-- What was read of a text, and the whole text.
use Rattle.teredo_app.proofs.Words.{Err, IsFrontOf, IsNamedText, IsTextOf, List, None, Option, Some, TooLong, ap, arith, cases_lt, inl, inr, length, length-append, nat_lt, nat_tests, refl, scenario_of, sym, true, ℕ, ◌<◌, ◌∙◌, ◌≡◌, ◌≤◌}

-- a text above the limit is refused as such
too_long : (text : List ℕ) → 4194304 < length text → scenario_of text ≡ Err TooLong
unfolding scenario_of
too_long text long = let yes : nat_lt 4194304 (length text) ≡ true = grind (arith, nat_tests) in rw yes refl

longer : (bytes text : List ℕ) → IsFrontOf bytes 4194305 text → 4194305 ≤ length text → 4194304 < length bytes
longer bytes text f long = let (rest, is) = f.front in omega (arith, ap length is, length-append text rest)

-- what was read is the same scenario as the whole text, or has the same first refusal
pub whole_text : (told : Option (List ℕ)) (text : List ℕ) → IsTextOf told 4194305 text → (whole : List ℕ) × IsNamedText told whole × (scenario_of whole ≡ scenario_of text)
whole_text None text r = (text, tt, refl)
whole_text (Some bytes) text r =
    elim (cases_lt (length text) 4194305) [
      | inl h ↦ (text, r.content.whole h, refl)
      | inr h ↦ (bytes, refl, too_long bytes (longer bytes text r.content h) ∙ sym (too_long text (omega arith)))
    ]
