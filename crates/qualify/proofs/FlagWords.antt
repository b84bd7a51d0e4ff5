-- The word of an address' flags, among those that were drawn.
use Rattle.qualify.proofs.Words.{Bool, ChaCha, None, Option, Settings, Some, Words, after_words, ap, cond, drawn_words, false, flags_word, flags_words, last_word, refl, true, words_of, ℕ, ◌+◌, ◌∙◌, ◌≡◌}
use Rattle.qualify.proofs.Streams.{after_after}

abbrev word_if : Bool → ℕ → Option ℕ
word_if random word = cond random (Some word) None

second : (random : Bool) (w : Words) → word_if random (w 1) ≡ word_if random (last_word (drawn_words (1 + cond random 1 0) w))
second true w = refl
second false w = refl

-- behind an interval
pub flags_behind : (s : Settings) (g h : ChaCha) → h ≡ after_words 1 g → word_if s.random (words_of h 0) ≡ flags_word s (drawn_words (1 + flags_words s) (words_of g))
unfolding words_of after_words
flags_behind s g h is = ap (λ (x : ChaCha). word_if s.random (words_of x 0)) is ∙ second s.random (words_of g)

pub place_behind : (s : Settings) (g h : ChaCha) → h ≡ after_words 1 g → after_words (flags_words s) h ≡ after_words (1 + flags_words s) g
place_behind s g h is = ap (after_words (flags_words s)) is ∙ after_after g 1 (flags_words s)
