-- The words of the events, as a generator gives them.
use Rattle.std.proofs.Common.{◌≡◌, ℕ, ◌+◌, ◌*◌, ◌%◌, ◌^◌, ◌<◌, zero, suc, length, length-append, List, [], ◌∷◌, ◌++◌, refl, ap, ◌∙◌, arith}
use Rattle.rand_chacha.specs.ChaCha.{ChaCha, key_of, of_seed, word_at}
use Rattle.qualify.specs.Generator.{chacha20, words_of, after_words}
use Rattle.legal.specs.Lab.{stream_key, draws}
use Rattle.events.specs.declared.event.Event.{Event}
use Rattle.generator.specs.GeneratedNodes.{firsts}
use Rattle.generator.specs.declared.words.TheConstants.{EVENTS_STREAM}
use Rattle.generator.specs.GeneratedEvent.{generated_event}
use Rattle.generator.specs.Generated.{event_word, event_numbered, generated_events}

-- the laws of words
abbrev pub GoOn : Type 0
GoOn = (g : ChaCha) (n k : ℕ) → words_of (after_words n g) k ≡ words_of g (n + k)

abbrev pub Follow : Type 0
Follow = (g : ChaCha) (m n : ℕ) → after_words n (after_words m g) ≡ after_words (m + n) g

abbrev pub OfSeed : Type 0
OfSeed = (seed : List ℕ) (k : ℕ) → k < 2 ^ 68 → words_of (of_seed seed) k ≡ word_at chacha20 (key_of seed) 0 k

abbrev pub start : ℕ → ChaCha
start seed = of_seed (stream_key seed EVENTS_STREAM)

pub no_words : (g : ChaCha) → after_words 0 g ≡ g
unfolding after_words
no_words g = refl

pub three_more : Follow → (seed i : ℕ) (rng : ChaCha) → rng ≡ after_words (3 * i) (start seed) → after_words 3 rng ≡ after_words (3 * (i + 1)) (start seed)
three_more follow seed i rng is =
    let on : 3 * i + 3 ≡ 3 * (i + 1) = omega arith in
    ap (after_words 3) is ∙ follow (start seed) (3 * i) 3 ∙ ap (λ (n : ℕ). after_words n (start seed)) on

word_is : GoOn → OfSeed → (seed n k : ℕ) (rng : ChaCha) → n + k < 2 ^ 68 → rng ≡ after_words n (start seed) → words_of rng k ≡ event_word seed (n + k)
unfolding draws
word_is go_on of_seed seed n k rng few is =
    let same : n + k ≡ (n + k) % 2 ^ 68 = omega (arith, few) in
    ap (λ (g : ChaCha). words_of g k) is ∙ go_on (start seed) n k ∙ of_seed (stream_key seed EVENTS_STREAM) (n + k) few
    ∙ ap (word_at chacha20 (key_of (stream_key seed EVENTS_STREAM)) 0) same

pub event_is : GoOn → OfSeed → (seed i : ℕ) (rng : ChaCha) → i < 50000 → rng ≡ after_words (3 * i) (start seed) → generated_event i (words_of rng 0) (words_of rng 1) (words_of rng 2) ≡ event_numbered seed i
event_is go_on of_seed seed i rng few is =
    let first : words_of rng 0 ≡ event_word seed (3 * i) = let at : 3 * i + 0 ≡ 3 * i = omega arith in word_is go_on of_seed seed (3 * i) 0 rng (omega (arith, few)) is ∙ ap (event_word seed) at in
    let second = word_is go_on of_seed seed (3 * i) 1 rng (omega (arith, few)) is in
    let third = word_is go_on of_seed seed (3 * i) 2 rng (omega (arith, few)) is in
    ap (λ (a : ℕ). generated_event i a (words_of rng 1) (words_of rng 2)) first
    ∙ ap (λ (b : ℕ). generated_event i (event_word seed (3 * i)) b (words_of rng 2)) second
    ∙ ap (λ (c : ℕ). generated_event i (event_word seed (3 * i)) (event_word seed (3 * i + 1)) c) third

pub no_events : (seed : ℕ) → firsts (event_numbered seed) 0 ≡ []
unfolding firsts
no_events seed = refl

-- one more event
pub event_added : (seed i : ℕ) (before after : List Event) (e : Event) → before ≡ firsts (event_numbered seed) i → e ≡ event_numbered seed i → after ≡ before ++ e ∷ [] → after ≡ firsts (event_numbered seed) (i + 1)
unfolding firsts
event_added seed i before after e so_far is added =
    let next : suc i ≡ i + 1 = omega arith in
    added ∙ ap (λ (es : List Event). es ++ e ∷ []) so_far ∙ ap (λ (x : Event). firsts (event_numbered seed) i ++ x ∷ []) is ∙ ap (firsts (event_numbered seed)) next

pub all_events : (seed i count : ℕ) (es : List Event) → es ≡ firsts (event_numbered seed) i → i ≡ count → es ≡ generated_events seed count
unfolding generated_events
all_events seed i count es is end = is ∙ ap (firsts (event_numbered seed)) end

firsts_count : {A : Type 0} (f : ℕ → A) (n : ℕ) → length (firsts f n) ≡ n
unfolding firsts
firsts_count f zero = refl
firsts_count f (suc n) = omega (arith, firsts_count f n, length-append (firsts f n) (f n ∷ []))

pub so_many : (seed count : ℕ) (es : List Event) → es ≡ generated_events seed count → length es ≡ count
unfolding generated_events
so_many seed count es is = ap length is ∙ firsts_count (event_numbered seed) count
