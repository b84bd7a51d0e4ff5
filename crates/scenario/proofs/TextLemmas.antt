-- Which texts are TOML.
use Rattle.scenario.proofs.Words.{Bool, IsUtf8, IsUtf8-from_is_utf8, List, None, document_of, false, is_utf8, is_utf8-from_IsUtf8, parse_document, refl, true, ℕ, ◌≡◌}

not_utf8 : (text : List ℕ) (b : Bool) → (IsUtf8 text → ⊥) → is_utf8 text ≡ b → is_utf8 text ≡ false
not_utf8 text true other e = absurd (other (IsUtf8-from_is_utf8 text e))
not_utf8 text false other e = e

pub no_document : (text : List ℕ) → (IsUtf8 text → ⊥) → document_of text ≡ None
no_document text other = rw (not_utf8 text (is_utf8 text) other refl) refl

pub document_of-text : (text : List ℕ) → IsUtf8 text → document_of text ≡ parse_document text
document_of-text text is = rw (is_utf8-from_IsUtf8 text is) refl
