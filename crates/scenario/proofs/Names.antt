-- The names that texts are.
use Rattle.scenario.proofs.Words.{IfNone, IfSome, List, NAME_LEN, Name, None, Option, Some, [], and_parts, ap, arith, begins_with_letter, false, inl, inr, is_name, is_name_byte, leb-true, length, list_all, name, name_text, nat_le, one_name, refl, replicate, spelled_name, sym, take, take_all, take_at, true, ℕ, ◌&&◌, ◌-◌, ◌<◌, ◌∙◌, ◌∷◌, ◌≡◌, ◌≢◌, ◌≤◌, ◌⊎◌}

pub is_name-short : (text : List ℕ) → is_name text ≡ true → length text ≤ NAME_LEN
unfolding is_name
is_name-short text e = leb-true _ _ (and_parts (begins_with_letter text && list_all is_name_byte text) (nat_le (length text) NAME_LEN) e).1

-- the text of the name that a text is
pub name-text : (text : List ℕ) → length text ≤ NAME_LEN → name_text (name text) ≡ text
unfolding name
name-text text short =
    let front : take NAME_LEN text ≡ text = take_all NAME_LEN text short in
    take_at (take NAME_LEN text) (replicate (NAME_LEN - length (take NAME_LEN text)) 0) (length (take NAME_LEN text)) refl ∙ front

-- a name of this text is that name
pub name_is : (a : Name) (text : List ℕ) → length text ≤ NAME_LEN → name_text a ≡ text → a ≡ name text
name_is a text short e = one_name a (name text) (e ∙ sym (name-text text short))

is_name-some : (text : List ℕ) → is_name text ≡ true → text ≡ [] → ⊥
unfolding is_name
is_name-some [] e f = absurd cc
is_name-some (x ∷ xs) e f = absurd cc

-- a name that was made of a text
pub spelled_name-made : (text : List ℕ) (r : Option Name) → is_name text ≡ true → IfSome r (λ a. (name_text a ≡ text) × (text ≢ [])) → IfNone r ((text ≡ []) ⊎ (NAME_LEN < length text)) → r ≡ spelled_name text
unfolding spelled_name
spelled_name-made text None e some none =
    elim none [
      | inl h ↦ absurd (is_name-some text e h)
      | inr h ↦ absurd (omega (arith, h, is_name-short text e))
    ]
spelled_name-made text (Some a) e some none = rw e (ap Some (name_is a text (is_name-short text e) some.0))

pub spelled_name-not : (text : List ℕ) → is_name text ≡ false → spelled_name text ≡ None
unfolding spelled_name
spelled_name-not text e = rw e refl
