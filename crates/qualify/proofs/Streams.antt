-- The words of a generator, further on.
use Rattle.qualify.proofs.Words.{ChaCha, List, after_words, ap, arith, chacha20, key_of, next_word, of_seed, suc, word_at, words_of, zero, ℕ, ◌%◌, ◌+◌, ◌<◌, ◌^◌, ◌∙◌, ◌≡◌}

pub words_after : (g : ChaCha) (n k : ℕ) → words_of (after_words n g) k ≡ words_of g (n + k)
unfolding words_of after_words
words_after g zero k = let e : k ≡ 0 + k = omega arith in ap (words_of g) e
words_after g (suc n) k =
    let e : suc (n + k) ≡ suc n + k = omega arith in
    words_after (next_word chacha20 g).1 n k ∙ ap (words_of g) e

pub after_after : (g : ChaCha) (m n : ℕ) → after_words n (after_words m g) ≡ after_words (m + n) g
unfolding after_words
after_after g zero n = let e : n ≡ 0 + n = omega arith in ap (λ (x : ℕ). after_words x g) e
after_after g (suc m) n =
    let e : suc (m + n) ≡ suc m + n = omega arith in
    after_after (next_word chacha20 g).1 m n ∙ ap (λ (x : ℕ). after_words x g) e

-- a place of a stream
abbrev at : List ℕ → ℕ → ℕ → ChaCha
at key stream place = record { key = key; stream = stream; word_pos = place }

words_at : (key : List ℕ) (stream place k : ℕ) → place + k < 2 ^ 68 → words_of (at key stream place) k ≡ word_at chacha20 key stream (place + k)
unfolding words_of
words_at key stream place zero h = let e : place ≡ place + 0 = omega arith in ap (word_at chacha20 key stream) e
words_at key stream place (suc k) h =
    let small : (place + 1) % 2 ^ 68 ≡ place + 1 = omega arith in
    let below : place + 1 + k < 2 ^ 68 = omega arith in
    let same : place + 1 + k ≡ place + suc k = omega arith in
    ap (λ (x : ℕ). words_of (at key stream x) k) small ∙ words_at key stream (place + 1) k below ∙ ap (word_at chacha20 key stream) same

pub seed_words : (seed : List ℕ) (k : ℕ) → k < 2 ^ 68 → words_of (of_seed seed) k ≡ word_at chacha20 (key_of seed) 0 k
seed_words seed k h =
    let below : 0 + k < 2 ^ 68 = omega arith in
    let same : 0 + k ≡ k = omega arith in
    words_at (key_of seed) 0 0 k below ∙ ap (word_at chacha20 (key_of seed) 0) same
