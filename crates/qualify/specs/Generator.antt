-- The words that a generator gives, one after the other.
use Rattle.std.specs.Prelude.{ℕ, zero, suc}
use Rattle.rand_chacha.specs.ChaCha.{ChaCha, next_word}

-- ChaCha20: its twenty rounds are ten double ones
abbrev pub chacha20 : ℕ
chacha20 = 10

-- *words of a generator*: what it gives from now on, one after the other.
-- the next words, from word 0 on
unfoldable pub words_of : ChaCha → ℕ → ℕ
words_of g zero = (next_word chacha20 g).0
words_of g (suc k) = words_of (next_word chacha20 g).1 k

-- the generator after so many words
unfoldable pub after_words : ℕ → ChaCha → ChaCha
after_words zero g = g
after_words (suc n) g = after_words n (next_word chacha20 g).1
