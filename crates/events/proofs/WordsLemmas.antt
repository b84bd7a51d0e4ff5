-- The words of a text, one after the other.
use Rattle.events.proofs.Words.{Bool, IsFirstByte, List, None, Option, Some, [], a_word, add_assoc, ap, arith, cases_lt, drop, drop-drop, fails_before_first, false, inl, inr, is_byte, le-leb, length, length-drop, length-slice_split, length-take, lt-leb, no_word, not, placed, position_or_len, position_or_len_is, prefix_len-le-length, refl, slice_split, slice_split_first, slice_split_none, space, sym, take, take_all, text_words, true, unwrap_or, words_from, ℕ, ◌+◌, ◌-◌, ◌<◌, ◌==◌, ◌∙◌, ◌∷◌, ◌≡◌, ◌≤◌}

-- behind the end of the text
pub words_from-end : (text : List ℕ) (at : ℕ) → length text < at → words_from text at ≡ no_word (length text)
unfolding words_from
words_from-end text at lt = rw (lt-leb at (length text) lt) refl

placed-more : (place : ℕ) (word : List ℕ) (parts : List (List ℕ)) → 0 < length parts → placed place (word ∷ parts) ≡ a_word place word (placed (place + length word + 1) parts)
placed-more place word [] some = absurd (omega (arith, some))
placed-more place word (next ∷ more) some = refl

fails : (b : Bool) → ¬ (b ≡ true) → b ≡ false
fails true h = absurd (h refl)
fails false h = refl

-- the first such byte, or the end where there is none
pub ends_at : (wanted : ℕ) (text : List ℕ) (r : Option ℕ) → IsFirstByte (is_byte wanted) text r → unwrap_or r (length text) ≡ position_or_len (λ byte. byte == wanted) text
ends_at wanted text None h = sym (position_or_len_is (λ byte. byte == wanted) text (length text) 0 (omega arith) (λ k lt. fails _ (h k (omega arith) lt)) (λ lt. absurd (omega (arith, lt))))
ends_at wanted text (Some k) h = sym (position_or_len_is (λ byte. byte == wanted) text k 0 (omega (arith, h.0.high)) (λ j lt. fails _ (h.0.before j (omega arith) lt)) (λ lt. h.1))

abbrev is_space : ℕ → Bool
is_space byte = byte == space

within : (text : List ℕ) (at : ℕ) → at ≤ length text → words_from text at ≡ placed at (slice_split is_space (drop at text))
unfolding words_from
within text at le = rw (le-leb at (length text) le) refl

-- the words of a text from a place within it
pub words_from-cut : (text : List ℕ) (at len : ℕ) → at ≤ length text → len ≡ position_or_len (λ byte. byte == space) (drop at text) → words_from text at ≡ a_word at (take len (drop at text)) (words_from text (at + len + 1))
words_from-cut text at len le e =
    let left = drop at text in
    let size : length left ≡ length text - at = length-drop at text in
    let bound = prefix_len-le-length (λ x. not (is_space x)) left in
    let short : len ≤ length left = omega (arith, e, bound) in
    let taken : length (take len left) ≡ len = omega (arith, length-take len left, short) in
    within text at le ∙ elim (cases_lt len (length left)) as (λ _. placed at (slice_split is_space left) ≡ a_word at (take len left) (words_from text (at + len + 1))) [
      | inl lt ↦
          let cut : slice_split is_space left ≡ take len left ∷ slice_split is_space (drop (len + 1) left) = slice_split_first is_space left 0 (omega (arith, lt, e)) ∙ rw (sym e) refl in
          let inside : at + len + 1 ≤ length text = omega (arith, lt, size) in
          let some : 0 < length (slice_split is_space (drop (len + 1) left)) = omega (arith, length-slice_split is_space (drop (len + 1) left)) in
          let same : drop (len + 1) left ≡ drop (at + len + 1) text = drop-drop (len + 1) at text ∙ ap (λ n. drop n text) (sym (add_assoc at len 1)) in
          ap (placed at) cut
          ∙ placed-more at (take len left) (slice_split is_space (drop (len + 1) left)) some
          ∙ ap (a_word at (take len left)) (
          ap (λ n. placed (at + n + 1) (slice_split is_space (drop (len + 1) left))) taken
          ∙ ap (λ l. placed (at + len + 1) (slice_split is_space l)) same
          ∙ sym (within text (at + len + 1) inside))
      | inr le2 ↦
          let all : len ≡ length left = omega (arith, short, le2) in
          let none : slice_split is_space left ≡ left ∷ [] = slice_split_none is_space left (λ k d lt. fails_before_first is_space left k d (omega (arith, lt, e, all))) in
          let whole : left ≡ take len left = sym (take_all len left (omega (arith, all))) in
          let size2 : at + length left ≡ length text = omega (arith, size, le) in
          ap (placed at) none
          ∙ ap (λ l. a_word at l (no_word (at + length left))) whole
          ∙ ap (a_word at (take len left)) (ap no_word size2 ∙ sym (words_from-end text (at + len + 1) (omega (arith, all, size2))))
    ]

pub whole : (text : List ℕ) → words_from text 0 ≡ text_words text
whole text = within text 0 (omega arith)
