-- The words of events' texts have no spaces.
use Rattle.events.proofs.Words.{All, All-cons, All-nil, AllByRecursion, AllDigits, AreGroups, Bool, Ep, Ip4, Ip6, IsDigits-lower_digits, IsEp, IsIp4, IsIp6, List, Some, Spells, Verb, [], and-false, and_from, and_parts, ap, arith, bytes_spelled, codes, decimal, decode_of-encode_lower, digit_value, digits, encode_lower, encode_with, ep_text, false, groups, hex_digit_value, hex_word, inl, inr, ip4_text, ip6_text, is_plain_text, join_with_byte, le-leb, length, length-encode_with, list_all, lower_digits, nat_le, ne_eqb, not, not-true, printed_is_spelled, refl, same_text, same_text-true, slice_index, slice_split, slice_split_at, slice_split_none, space, subst, suc, true, verb_of, verb_word, ℕ, ◌%◌, ◌&&◌, ◌++◌, ◌/◌, ◌<◌, ◌==◌, ◌^◌, ◌∙◌, ◌∷◌, ◌≡◌, ◌≤◌}
use Rattle.hex.specs.Hex.{IsBytes}
use Rattle.events.specs.declared.verb.Verb.TheVariants as verb

-- no byte of the text is a space
abbrev pub is_word : List ℕ → Bool
is_word text = list_all (λ byte. not (byte == space)) text

-- ---- words that are joined and cut again

no_space : (xs : List ℕ) → is_word xs ≡ true → All (λ x. (x == 32) ≡ false) xs
no_space [] e = All-nil (λ x. (x == 32) ≡ false)
no_space (x ∷ xs) e =
    let both = and_parts (not (x == 32)) (is_word xs) e in
    All-cons (λ y. (y == 32) ≡ false) x xs (not-true (x == 32) both.0) (no_space xs both.1)

pub split_join : (parts : List (List ℕ)) → 0 < length parts → AllByRecursion (λ x. is_word x ≡ true) parts → slice_split (λ byte. byte == space) (join_with_byte space parts) ≡ parts
split_join [] some h = absurd (omega (arith, some))
split_join (x ∷ []) some h = slice_split_none (λ byte. byte == 32) x (no_space x h.0)
split_join (x ∷ y ∷ more) some h =
    slice_split_at (λ byte. byte == 32) x 32 (join_with_byte 32 (y ∷ more)) (no_space x h.0) refl
    ∙ ap (λ l. x ∷ l) (split_join (y ∷ more) (omega arith) h.1)

-- ---- each word

is_word-append : (xs ys : List ℕ) → is_word xs ≡ true → is_word ys ≡ true → is_word (xs ++ ys) ≡ true
is_word-append [] ys a b = b
is_word-append (x ∷ xs) ys a b =
    let both = and_parts (not (x == 32)) (is_word xs) a in
    and_from (not (x == 32)) (is_word (xs ++ ys)) both.0 (is_word-append xs ys both.1 b)

pub is_word-verb : (v : Verb) → is_word (verb_word v) ≡ true
is_word-verb verb.Advance = refl
is_word-verb verb.Deliver = refl
is_word-verb verb.Next = refl
is_word-verb verb.Host = refl
is_word-verb verb.Echo = refl
is_word-verb verb.Raw = refl
is_word-verb verb.Stranger = refl
is_word-verb verb.Copy = refl
is_word-verb verb.Restart = refl
is_word-verb verb.Forget = refl
is_word-verb verb.Fault = refl
is_word-verb verb.Settle = refl

pub verb_back : (v : Verb) → verb_of (verb_word v) ≡ Some v
unfolding verb_of
verb_back verb.Advance = refl
verb_back verb.Deliver = refl
verb_back verb.Next = refl
verb_back verb.Host = refl
verb_back verb.Echo = refl
verb_back verb.Raw = refl
verb_back verb.Stranger = refl
verb_back verb.Copy = refl
verb_back verb.Restart = refl
verb_back verb.Forget = refl
verb_back verb.Fault = refl
verb_back verb.Settle = refl

-- a digit, in any base up to 16
no_digit : (x : ℕ) → digit_value x < 16 → not (x == 32) ≡ true
no_digit x fits =
    let P : ℕ → Type 0 = λ y. digit_value y < 16 in
    ap not (ne_eqb x 32 (λ e. let at = subst P e fits in absurd (omega (arith, at))))

is_word-digits : (base : ℕ) (xs : List ℕ) → base ≤ 16 → AllDigits base xs → is_word xs ≡ true
is_word-digits base [] le h = refl
is_word-digits base (x ∷ xs) le h = and_from (not (x == 32)) (is_word xs) (no_digit x (omega (arith, h.0, le))) (is_word-digits base xs le h.1)

pub is_word-decimal : (n : ℕ) → n < 2 ^ 64 → is_word (decimal n) ≡ true
is_word-decimal n small = is_word-digits 10 (decimal n) (omega arith) (digits n small)

dotted : (xs : List ℕ) (n : ℕ) → n < 256 → is_word xs ≡ true → is_word (xs ++ 46 ∷ decimal n) ≡ true
dotted xs n small e = is_word-append xs (46 ∷ decimal n) e (is_word-decimal n (omega arith))

is_word-ip4 : (ip : Ip4) → IsIp4 ip → is_word (ip4_text ip) ≡ true
is_word-ip4 ip h =
    let at = λ (i : ℕ). slice_index ip.0 i in
    let one = decimal (at 0) in
    let two = one ++ 46 ∷ decimal (at 1) in
    let three = two ++ 46 ∷ decimal (at 2) in
    dotted three (at 3) (h.1 3) (dotted two (at 2) (h.1 2) (dotted one (at 1) (h.1 1) (is_word-decimal (at 0) (omega (arith, h.1 0)))))

pub is_word-ep : (ep : Ep) → IsEp ep → is_word (ep_text ep) ≡ true
is_word-ep ep h = is_word-append (ip4_text ep.ip) (58 ∷ decimal ep.port) (is_word-ip4 ep.ip h.0) (is_word-decimal ep.port (omega (arith, h.1)))

pub is_word-plain : (text : List ℕ) → is_plain_text text ≡ true → is_word text ≡ true
is_word-plain [] e = refl
is_word-plain (x ∷ xs) e =
    let both = and_parts (not (x == 32) && not (x == 58)) (is_plain_text xs) e in
    and_from (not (x == 32)) (is_word xs) (and_parts (not (x == 32)) (not (x == 58)) both.0).0 (is_word-plain xs both.1)

-- ---- bytes

hex_digit : (x d : ℕ) → hex_digit_value x ≡ Some d → not (x == 32) ≡ true
hex_digit x d e =
    let P : ℕ → Type 0 = λ y. hex_digit_value y ≡ Some d in
    ap not (ne_eqb x 32 (λ same. let at : hex_digit_value 32 ≡ Some d = subst P same e in absurd cc))

is_word-hex : (bytes : List ℕ) → IsBytes bytes → is_word (encode_lower bytes) ≡ true
unfolding encode_with
is_word-hex [] h = refl
is_word-hex (b ∷ more) h =
    let fits : b < 256 = h 0 in
    let first = hex_digit (slice_index lower_digits (b / 16)) (b / 16) (IsDigits-lower_digits (b / 16) (omega arith)) in
    let second = hex_digit (slice_index lower_digits (b % 16)) (b % 16) (IsDigits-lower_digits (b % 16) (omega arith)) in
    and_from (not (slice_index lower_digits (b / 16) == 32)) _ first (and_from (not (slice_index lower_digits (b % 16) == 32)) _ second (is_word-hex more (λ i. h (suc i))))

pub is_word-bytes : (bytes : List ℕ) → IsBytes bytes → is_word (hex_word bytes) ≡ true
is_word-bytes [] h = refl
is_word-bytes (b ∷ more) h = is_word-hex (b ∷ more) h

same_or : (b : Bool) (x y : List ℕ) → same_text x y ≡ b → (x ≡ y → ⊥) → same_text x y ≡ false
same_or true x y e other = absurd (other (same_text-true x y e))
same_or false x y e other = e

not_dash : (b : ℕ) (more : List ℕ) → same_text (encode_lower (b ∷ more)) (codes "-") ≡ false
not_dash b more = same_or (same_text (encode_lower (b ∷ more)) (codes "-")) (encode_lower (b ∷ more)) (codes "-") refl (λ e. absurd (omega (arith, ap length e, length-encode_with lower_digits (b ∷ more))))

pub bytes_back : (most : ℕ) (bytes : List ℕ) → length bytes ≤ most → IsBytes bytes → bytes_spelled most (hex_word bytes) ≡ Some bytes
unfolding bytes_spelled
bytes_back most [] le h = refl
bytes_back most (b ∷ more) le h =
    let some : nat_le 1 (length (b ∷ more)) ≡ true = le-leb 1 (length (b ∷ more)) (omega arith) in
    let few : nat_le (length (b ∷ more)) most ≡ true = le-leb (length (b ∷ more)) most le in
    rw (not_dash b more, decode_of-encode_lower (b ∷ more) h, some, few) refl

-- ---- IPv6 addresses

is_word-groups : (ns text : List ℕ) → AreGroups ns text → is_word text ≡ true
is_word-groups [] text h = ap is_word h
is_word-groups (n ∷ []) text h = is_word-digits 16 text (omega arith) h.0.1
is_word-groups (n ∷ m ∷ ns) text h = ap is_word h.4 ∙ is_word-append h.0 (58 ∷ h.1) (is_word-digits 16 h.0 (omega arith) h.2.0.1) (is_word-groups (m ∷ ns) h.1 h.3)

is_word-spelled : (ip : Ip6) (text : List ℕ) → Spells ip text → is_word text ≡ true
is_word-spelled ip text (inl h) = is_word-groups (groups ip) text h
is_word-spelled ip text (inr e) = ap is_word e.spelled ∙ is_word-append e.head_text (58 ∷ 58 ∷ e.tail_text) (is_word-groups e.head e.head_text e.head_groups) (is_word-groups e.tail e.tail_text e.tail_groups)

pub is_word-ip6 : (ip : Ip6) → IsIp6 ip → is_word (ip6_text ip) ≡ true
is_word-ip6 ip h = is_word-spelled ip (ip6_text ip) (printed_is_spelled ip h)

has_colon : (xs more : List ℕ) → is_plain_text (xs ++ 58 ∷ more) ≡ false
has_colon [] more = refl
has_colon (x ∷ xs) more = ap (λ b. (not (x == 32) && not (x == 58)) && b) (has_colon xs more) ∙ and-false (not (x == 32) && not (x == 58))

colon_spelled : (ip : Ip6) (text : List ℕ) → Spells ip text → is_plain_text text ≡ false
colon_spelled ip text (inl h) = ap is_plain_text h.4 ∙ has_colon h.0 h.1
colon_spelled ip text (inr e) = ap is_plain_text e.spelled ∙ has_colon e.head_text (58 ∷ e.tail_text)

pub colon_ip6 : (ip : Ip6) → IsIp6 ip → is_plain_text (ip6_text ip) ≡ false
colon_ip6 ip h = colon_spelled ip (ip6_text ip) (printed_is_spelled ip h)
