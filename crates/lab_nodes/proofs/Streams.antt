-- The words that clients draw.
use Rattle.lab_nodes.proofs.Words.{ChaCha, List, ap, arith, chacha20, draws, key_of, of_seed, stream_key, suc, word_at, words_of, zero, ℕ, ◌%◌, ◌+◌, ◌<◌, ◌^◌, ◌∙◌, ◌≡◌}

abbrev at : List ℕ → ℕ → ChaCha
at key place = record { key = key; stream = 0; word_pos = place }

words_at : (key : List ℕ) (place k : ℕ) → place < 2 ^ 68 → words_of (at key place) k ≡ word_at chacha20 key 0 ((place + k) % 2 ^ 68)
unfolding words_of
words_at key place zero h = let e : place ≡ (place + 0) % 2 ^ 68 = omega (arith, h) in ap (word_at chacha20 key 0) e
words_at key place (suc k) h =
    let same : ((place + 1) % 2 ^ 68 + k) % 2 ^ 68 ≡ (place + suc k) % 2 ^ 68 = omega arith in
    let below : (place + 1) % 2 ^ 68 < 2 ^ 68 = omega arith in
    words_at key ((place + 1) % 2 ^ 68) k below ∙ ap (word_at chacha20 key 0) same

-- a generator that begins a node's stream draws its words
pub first_words : (seed n : ℕ) → words_of (of_seed (stream_key seed n)) ≡ (λ k. draws seed n (0 + k))
unfolding draws
first_words seed n = λ i k. words_at (key_of (stream_key seed n)) 0 k (omega arith) i
