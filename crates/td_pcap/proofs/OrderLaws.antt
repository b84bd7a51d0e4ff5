-- Numbers that stand one after the other in bytes, in either order.
use Rattle.td_pcap.proofs.Words.{Bool, Front, IsBytes, IsBytes-drop, IsBytes-take, IsPut, List, [], ap, append_assoc, arith, big_bytes, big_from-lt, big_number-reads_back, cut, cut_2, cut_4, drop, drop-drop, drop_at, false, front_more, le_bytes_2, le_bytes_4, length, length-bytes_high_first, length-bytes_low_first, length-drop, little_bytes, little_from-lt, little_number, little_number-reads_back, ordered_bytes, ordered_number, refl, sym, take, true, ℕ, ◌++◌, ◌+◌, ◌<◌, ◌^◌, ◌∙◌, ◌∷◌, ◌≡◌, ◌≤◌}

pub length-ordered_bytes : (little : Bool) (n number : ℕ) → length (ordered_bytes little n number) ≡ n
length-ordered_bytes true n number = length-bytes_low_first 0 n number
length-ordered_bytes false n number = length-bytes_high_first n number

pub ordered_number-lt : (little : Bool) (place n : ℕ) (x : List ℕ) → IsBytes x → ordered_number little place n x < 256 ^ n
ordered_number-lt true place n x fits = little_from-lt 0 n (drop place x) (IsBytes-drop place x fits)
ordered_number-lt false place n x fits = big_from-lt 0 n (drop place x) (IsBytes-drop place x fits)

-- what stands at a place is the number, and then the rest
pub number_stands : (little : Bool) (place n number : ℕ) (x rest : List ℕ) → number < 256 ^ n → drop place x ≡ ordered_bytes little n number ++ rest → ordered_number little place n x ≡ number
number_stands true place n number x rest small is = ap (little_number n) is ∙ little_number-reads_back n number rest small
number_stands false place n number x rest small is = ap (λ (t : List ℕ). ordered_number false 0 n t) is ∙ big_number-reads_back n number rest small

pub rest_stands : (place n next : ℕ) (front x rest : List ℕ) → length front ≡ n → next ≡ place + n → drop place x ≡ front ++ rest → drop next x ≡ rest
rest_stands place n next front x rest long after is = ap (λ (p : ℕ). drop p x) after ∙ sym (drop-drop n place x) ∙ ap (drop n) is ∙ drop_at front rest n long

little_2 : (bytes : List ℕ) → IsBytes bytes → 2 ≤ length bytes → take 2 bytes ≡ little_bytes 2 (little_number 2 bytes)
little_2 [] fits long = absurd (omega arith)
little_2 (a ∷ []) fits long = absurd (omega arith)
little_2 (a ∷ b ∷ rest) fits long = sym (le_bytes_2 (a ∷ b ∷ []) _ refl (IsBytes-take 2 (a ∷ b ∷ rest) fits) (omega arith))

little_4 : (bytes : List ℕ) → IsBytes bytes → 4 ≤ length bytes → take 4 bytes ≡ little_bytes 4 (little_number 4 bytes)
little_4 [] fits long = absurd (omega arith)
little_4 (a ∷ []) fits long = absurd (omega arith)
little_4 (a ∷ b ∷ []) fits long = absurd (omega arith)
little_4 (a ∷ b ∷ c ∷ []) fits long = absurd (omega arith)
little_4 (a ∷ b ∷ c ∷ d ∷ rest) fits long = sym (le_bytes_4 (a ∷ b ∷ c ∷ d ∷ []) _ refl (IsBytes-take 4 (a ∷ b ∷ c ∷ d ∷ rest) fits) (omega arith))

-- the next number's bytes are those of the number that is read there
pub stands_2 : (little : Bool) (place next : ℕ) (x : List ℕ) → IsBytes x → place + 2 ≤ length x → next ≡ place + 2 → drop place x ≡ ordered_bytes little 2 (ordered_number little place 2 x) ++ drop next x
stands_2 true place next x fits long after =
    cut place 2 x ∙ ap (λ (t : List ℕ). t ++ drop (place + 2) x) (little_2 (drop place x) (IsBytes-drop place x fits) (omega (arith, length-drop place x)))
    ∙ ap (λ (p : ℕ). little_bytes 2 (little_number 2 (drop place x)) ++ drop p x) (sym after)
stands_2 false place next x fits long after = cut_2 place x fits long ∙ ap (λ (p : ℕ). big_bytes 2 (ordered_number false place 2 x) ++ drop p x) (sym after)

pub stands_4 : (little : Bool) (place next : ℕ) (x : List ℕ) → IsBytes x → place + 4 ≤ length x → next ≡ place + 4 → drop place x ≡ ordered_bytes little 4 (ordered_number little place 4 x) ++ drop next x
stands_4 true place next x fits long after =
    cut place 4 x ∙ ap (λ (t : List ℕ). t ++ drop (place + 4) x) (little_4 (drop place x) (IsBytes-drop place x fits) (omega (arith, length-drop place x)))
    ∙ ap (λ (p : ℕ). little_bytes 4 (little_number 4 (drop place x)) ++ drop p x) (sym after)
stands_4 false place next x fits long after = cut_4 place x fits long ∙ ap (λ (p : ℕ). big_bytes 4 (ordered_number false place 4 x) ++ drop p x) (sym after)

-- the same where what stands there goes on before the rest
pub number_in_front : (little : Bool) (place n number : ℕ) (x more rest : List ℕ) → number < 256 ^ n → drop place x ≡ (ordered_bytes little n number ++ more) ++ rest → ordered_number little place n x ≡ number
number_in_front little place n number x more rest small is =
    number_stands little place n number x (more ++ rest) small (is ∙ append_assoc (ordered_bytes little n number) more rest)

pub more_behind : (little : Bool) (place n next number : ℕ) (x more rest : List ℕ) → next ≡ place + n → drop place x ≡ (ordered_bytes little n number ++ more) ++ rest → drop next x ≡ more ++ rest
more_behind little place n next number x more rest after is =
    rest_stands place n next (ordered_bytes little n number) x (more ++ rest) (length-ordered_bytes little n number) after (is ∙ append_assoc (ordered_bytes little n number) more rest)

-- parts in front of each other, from the last one on
pub joined : (a m rest x t : List ℕ) → x ≡ a ++ t → t ≡ m ++ rest → x ≡ (a ++ m) ++ rest
joined a m rest x t first then = first ∙ ap (λ (u : List ℕ). a ++ u) then ∙ sym (append_assoc a m rest)

-- five parts that were put one after the other
pub regrouped_5 : (a b c d e : List ℕ) → a ++ b ++ c ++ d ++ e ≡ a ++ (b ++ (c ++ (d ++ e)))
regrouped_5 a b c d e = append_assoc (a ++ b ++ c) d e ∙ append_assoc (a ++ b) c (d ++ e) ∙ append_assoc a b (c ++ (d ++ e))

-- seven
pub regrouped_7 : (a b c d e f g : List ℕ) → a ++ b ++ c ++ d ++ e ++ f ++ g ≡ a ++ (b ++ (c ++ (d ++ (e ++ (f ++ g)))))
regrouped_7 a b c d e f g = append_assoc (a ++ b ++ c ++ d ++ e) f g ∙ append_assoc (a ++ b ++ c ++ d) e (f ++ g) ∙ regrouped_5 a b c d (e ++ (f ++ g))

-- a number that is put behind what stands in front
pub number_more : {place : ℕ} {front old out : List ℕ} (next : ℕ) (little : Bool) (n number : ℕ) (new : List ℕ) → Front place front old out → IsPut place (ordered_bytes little n number) out new → next ≡ place + n
    → Front next (front ++ ordered_bytes little n number) old new
number_more {place} next little n number new so_far put after =
    front_more next (ordered_bytes little n number) new so_far put (after ∙ ap (λ (k : ℕ). place + k) (sym (length-ordered_bytes little n number)))
