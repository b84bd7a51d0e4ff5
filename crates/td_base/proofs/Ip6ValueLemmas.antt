-- The IPv6 addresses that words say are those whose texts they are.
use Rattle.td_base.proofs.Words.{All, All-cons, All-nil, AllDigits, AreGroups, Bool, IfOk, Ip6, IsElided, IsGroup, IsIp6, List, None, Ok, Option, Result, Some, Spells, [], address, all_eight, and_from, and_parts, ap, arith, begins_with_colon, behind, cond, digit_value, digits_value, drop, each_group, elided_at, false, flat_map, group_of, groups, groups_of, inl, inr, is_group, join_with_byte, join_with_byte-slice_split, le-leb, leb-true, length, length-slice_split, list_all, lt-ltb, nat_le, nat_lt, nat_tests, ne_eqb, numbers_of, option_map, refl, replicate, result_ok, same_Some, slice_split, slice_split_at, slice_split_none, subst, sym, true, ℕ, ◌%◌, ◌&&◌, ◌++◌, ◌+◌, ◌-◌, ◌/◌, ◌<◌, ◌==◌, ◌∙◌, ◌∷◌, ◌≡◌, ◌⊎◌}
use Rattle.std.proofs.Common.{eq-eqb, eqb-true, ltb-true, append_assoc}
use Rattle.td_base.proofs.SpellingLemmas.{AllSmall, groups_small, elided_is_whole, whole_length, whole_small}
use Rattle.td_base.proofs.AddressGroups.{pair_bytes, IsIp6-ip6_of, groups-ip6_of, pair_bytes-groups}
use Rattle.td_base.specs.Ip6Values.{ip6_of}
use Rattle.td_base.proofs.NumberValues.{bind_some, kept_some, as_read}

abbrev is_colon : ℕ → Bool
is_colon byte = byte == 58

abbrev is_digit : ℕ → Bool
is_digit byte = nat_lt (digit_value byte) 16

-- ---- one group

digits_from : (xs : List ℕ) → list_all is_digit xs ≡ true → AllDigits 16 xs
digits_from [] e = tt
digits_from (x ∷ xs) e =
    let both = and_parts (is_digit x) (list_all is_digit xs) e in
    (grind (arith, nat_tests), digits_from xs both.1)

digits_test : (xs : List ℕ) → AllDigits 16 xs → list_all is_digit xs ≡ true
digits_test [] h = refl
digits_test (x ∷ xs) h =
    let first : is_digit x ≡ true = grind (arith, nat_tests) in
    and_from (is_digit x) (list_all is_digit xs) first (digits_test xs h.1)

group_of-sound : (xs : List ℕ) (n : ℕ) → group_of xs ≡ Some n → IsGroup xs n
unfolding group_of
group_of-sound xs n e =
    let kept = kept_some (is_group xs) (Some (digits_value 16 xs)) n e in
    let outer = and_parts (list_all is_digit xs && nat_le 1 (length xs)) (nat_le (length xs) 4) kept.0 in
    let inner = and_parts (list_all is_digit xs) (nat_le 1 (length xs)) outer.0 in
    let some : 0 < length xs = omega (arith, leb-true 1 (length xs) inner.1) in
    ((some, digits_from xs inner.0), same_Some _ _ kept.1, leb-true (length xs) 4 outer.1)

group_of-back : (xs : List ℕ) (n : ℕ) → IsGroup xs n → group_of xs ≡ Some n
unfolding group_of
group_of-back xs n h =
    let a = digits_test xs h.0.1 in
    let b : nat_le 1 (length xs) ≡ true = le-leb 1 (length xs) (omega (arith, h.0.0)) in
    let c : nat_le (length xs) 4 ≡ true = le-leb (length xs) 4 h.2 in
    rw (a, b, c) (ap Some h.1)

-- ---- groups with colons between them

each_group-sound : (parts : List (List ℕ)) (ns : List ℕ) → 0 < length parts → each_group parts ≡ Some ns → AreGroups ns (join_with_byte 58 parts)
each_group-sound [] ns some e = absurd (omega (arith, some))
each_group-sound (x ∷ []) ns some e =
    let first = bind_some (group_of x) _ ns e in
    let P : List ℕ → Type 0 = λ l. AreGroups l x in
    subst P (same_Some (first.0 ∷ []) ns first.2) (group_of-sound x first.0 first.1)
each_group-sound (x ∷ y ∷ more) ns some e =
    let first = bind_some (group_of x) _ ns e in
    let others = bind_some (each_group (y ∷ more)) _ ns first.2 in
    let second = bind_some (group_of y) _ others.0 others.1 in
    let third = bind_some (each_group more) _ others.0 second.2 in
    let rest : AreGroups others.0 (join_with_byte 58 (y ∷ more)) = each_group-sound (y ∷ more) others.0 (omega arith) others.1 in
    let shape : second.0 ∷ third.0 ≡ others.0 = same_Some _ _ third.2 in
    let P : List ℕ → Type 0 = λ l. AreGroups l (join_with_byte 58 (x ∷ y ∷ more)) in
    let Q : List ℕ → Type 0 = λ l. AreGroups l (join_with_byte 58 (y ∷ more)) in
    let whole : first.0 ∷ second.0 ∷ third.0 ≡ ns = ap (λ l. first.0 ∷ l) shape ∙ same_Some _ _ others.2 in
    subst P whole (x, join_with_byte 58 (y ∷ more), group_of-sound x first.0 first.1, subst Q (sym shape) rest, refl)

groups_of-sound : (text ns : List ℕ) → groups_of text ≡ Some ns → AreGroups ns text
unfolding groups_of
groups_of-sound [] ns e =
    let P : List ℕ → Type 0 = λ l. AreGroups l [] in
    subst P (same_Some [] ns e) refl
groups_of-sound (byte ∷ more) ns e =
    let P : List ℕ → Type 0 = λ l. AreGroups ns l in
    subst P (join_with_byte-slice_split 58 (byte ∷ more)) (each_group-sound (slice_split is_colon (byte ∷ more)) ns (omega (arith, length-slice_split is_colon (byte ∷ more))) e)

no_colon : (c : ℕ) → digit_value c < 16 → (c == 58) ≡ false
no_colon c fits = ne_eqb c 58 (λ e. let P : ℕ → Type 0 = λ x. digit_value x < 16 in let at = subst P e fits in absurd (omega (arith, at)))

no_colons : (xs : List ℕ) → AllDigits 16 xs → All (λ x. (x == 58) ≡ false) xs
no_colons [] h = All-nil (λ x. (x == 58) ≡ false)
no_colons (x ∷ xs) h = All-cons (λ y. (y == 58) ≡ false) x xs (no_colon x h.0) (no_colons xs h.1)

each_group-back : (n : ℕ) (ns text : List ℕ) → AreGroups (n ∷ ns) text → each_group (slice_split is_colon text) ≡ Some (n ∷ ns)
each_group-back n [] text h =
    let one : slice_split is_colon text ≡ text ∷ [] = slice_split_none is_colon text (no_colons text h.0.1) in
    let found : group_of text ≡ Some n = group_of-back text n h in
    rw (one, found) refl
each_group-back n (m ∷ ns) text h =
    let cut : slice_split is_colon text ≡ h.0 ∷ slice_split is_colon h.1 = ap (slice_split is_colon) h.4 ∙ slice_split_at is_colon h.0 58 h.1 (no_colons h.0 h.2.0.1) refl in
    let found : group_of h.0 ≡ Some n = group_of-back h.0 n h.2 in
    let others = each_group-back m ns h.1 h.3 in
    rw (cut, found, others) refl

first_digit : (xs more text : List ℕ) → 0 < length xs → AllDigits 16 xs → text ≡ xs ++ more → (x : ℕ) × (ys : List ℕ) × (text ≡ x ∷ ys) × ((x == 58) ≡ false)
first_digit [] more text some h e = absurd (omega (arith, some))
first_digit (x ∷ xs) more text some h e = (x, xs ++ more, e, no_colon x h.0)

-- groups begin with a digit
head_digit : (n : ℕ) (ns text : List ℕ) → AreGroups (n ∷ ns) text → (x : ℕ) × (xs : List ℕ) × (text ≡ x ∷ xs) × ((x == 58) ≡ false)
head_digit n [] [] h = absurd (omega (arith, h.0.0))
head_digit n [] (x ∷ xs) h = (x, xs, refl, no_colon x h.0.1.0)
head_digit n (m ∷ ns) text h = first_digit h.0 (58 ∷ h.1) text h.2.0.0 h.2.0.1 h.4

groups_of-back : (ns text : List ℕ) → AreGroups ns text → groups_of text ≡ Some ns
unfolding groups_of
groups_of-back [] text h = rw h refl
groups_of-back (n ∷ ns) [] h = let d = head_digit n ns [] h in absurd cc
groups_of-back (n ∷ ns) (x ∷ xs) h = each_group-back n ns (x ∷ xs) h

-- ---- the place of `::`

abbrev behind_all : List ℕ → List ℕ × List ℕ → List ℕ × List ℕ
behind_all xs sides = (xs ++ sides.0, sides.1)

behind-twice : (x : ℕ) (xs : List ℕ) (o : Option (List ℕ × List ℕ)) → option_map (behind x) (option_map (behind_all xs) o) ≡ option_map (behind_all (x ∷ xs)) o
behind-twice x xs None = refl
behind-twice x xs (Some s) = refl

behind-none : (o : Option (List ℕ × List ℕ)) → o ≡ option_map (behind_all []) o
behind-none None = refl
behind-none (Some s) = refl

past_digits : (xs more : List ℕ) → AllDigits 16 xs → elided_at (xs ++ more) ≡ option_map (behind_all xs) (elided_at more)
past_digits [] more h = behind-none (elided_at more)
past_digits (x ∷ xs) more h = rw (no_colon x h.0, past_digits xs more h.1) (behind-twice x xs (elided_at more))

past_colon : (x : ℕ) (xs : List ℕ) → (x == 58) ≡ false → elided_at (58 ∷ x ∷ xs) ≡ option_map (behind 58) (elided_at (x ∷ xs))
past_colon x xs other = rw other refl

append_none : (xs : List ℕ) → xs ++ [] ≡ xs
append_none [] = refl
append_none (x ∷ xs) = ap (λ l. x ∷ l) (append_none xs)

-- a colon before groups
colon_then : (n : ℕ) (ns text more : List ℕ) → AreGroups (n ∷ ns) text → elided_at (58 ∷ (text ++ more)) ≡ option_map (behind 58) (elided_at (text ++ more))
colon_then n ns text more h =
    let d = head_digit n ns text h in
    ap (λ l. elided_at (58 ∷ (l ++ more))) d.2 ∙ past_colon d.0 (d.1 ++ more) d.3 ∙ ap (λ l. option_map (behind 58) (elided_at (l ++ more))) (sym d.2)

no_elision : (n : ℕ) (ns text : List ℕ) → AreGroups (n ∷ ns) text → elided_at text ≡ None
no_elision n [] text h = ap elided_at (sym (append_none text)) ∙ past_digits text [] h.0.1
no_elision n (m ∷ ns) text h =
    let colon : elided_at (58 ∷ h.1) ≡ option_map (behind 58) (elided_at h.1) = ap (λ l. elided_at (58 ∷ l)) (sym (append_none h.1)) ∙ colon_then m ns h.1 [] h.3 ∙ ap (λ l. option_map (behind 58) (elided_at l)) (append_none h.1) in
    ap elided_at h.4 ∙ past_digits h.0 (58 ∷ h.1) h.2.0.1 ∙ ap (option_map (behind_all h.0)) colon ∙ ap (λ o. option_map (behind_all h.0) (option_map (behind 58) o)) (no_elision m ns h.1 h.3)

elision : (ns text tail : List ℕ) → AreGroups ns text → elided_at (text ++ 58 ∷ 58 ∷ tail) ≡ Some (text, tail)
elision [] text tail h =
    let P : List ℕ → Type 0 = λ l. elided_at (l ++ 58 ∷ 58 ∷ tail) ≡ Some (l, tail) in
    subst P (sym h) refl
elision (n ∷ []) text tail h = past_digits text (58 ∷ 58 ∷ tail) h.0.1 ∙ ap (λ l. Some (l, tail)) (append_none text)
elision (n ∷ m ∷ ns) text tail h =
    let more = 58 ∷ 58 ∷ tail in
    ap (λ l. elided_at (l ++ more)) h.4
    ∙ ap elided_at (append_assoc h.0 (58 ∷ h.1) more)
    ∙ past_digits h.0 (58 ∷ (h.1 ++ more)) h.2.0.1
    ∙ ap (option_map (behind_all h.0)) (colon_then m ns h.1 more h.3)
    ∙ ap (λ o. option_map (behind_all h.0) (option_map (behind 58) o)) (elision (m ∷ ns) h.1 tail h.3)
    ∙ ap (λ l. Some (l, tail)) (sym h.4)

colon_first : (xs : List ℕ) → begins_with_colon xs ≡ true → xs ≡ 58 ∷ drop 1 xs
colon_first [] e = absurd cc
colon_first (x ∷ xs) e = ap (λ y. y ∷ xs) (eqb-true x 58 e)

pub mapped_some : {A B : Type 0} (f : A → B) (o : Option A) (y : B) → option_map f o ≡ Some y → (x : A) × (o ≡ Some x) × (f x ≡ y)
mapped_some f None y e = absurd cc
mapped_some f (Some x) y e = (x, refl, same_Some _ _ e)

parts_step : (b : Bool) (x : ℕ) (xs : List ℕ) (sides : List ℕ × List ℕ) → ((x == 58) && begins_with_colon xs) ≡ b → ((s : List ℕ × List ℕ) → elided_at xs ≡ Some s → xs ≡ s.0 ++ 58 ∷ 58 ∷ s.1)
    → cond b (Some ([], drop 1 xs)) (option_map (behind x) (elided_at xs)) ≡ Some sides → x ∷ xs ≡ sides.0 ++ 58 ∷ 58 ∷ sides.1
parts_step true x xs sides at ih e =
    let both = and_parts (x == 58) (begins_with_colon xs) at in
    let P : List ℕ × List ℕ → Type 0 = λ s. x ∷ xs ≡ s.0 ++ 58 ∷ 58 ∷ s.1 in
    subst P (same_Some _ _ e) (ap (λ y. y ∷ xs) (eqb-true x 58 both.0) ∙ ap (λ l. 58 ∷ l) (colon_first xs both.1))
parts_step false x xs sides at ih e =
    let found = mapped_some (behind x) (elided_at xs) sides e in
    let P : List ℕ × List ℕ → Type 0 = λ s. x ∷ xs ≡ s.0 ++ 58 ∷ 58 ∷ s.1 in
    subst P found.2 (ap (λ l. x ∷ l) (ih found.0 found.1))

elided_parts : (text : List ℕ) (sides : List ℕ × List ℕ) → elided_at text ≡ Some sides → text ≡ sides.0 ++ 58 ∷ 58 ∷ sides.1
elided_parts [] sides e = absurd cc
elided_parts (x ∷ xs) sides e = parts_step ((x == 58) && begins_with_colon xs) x xs sides refl (λ s h. elided_parts xs s h) e

-- ---- the address

address-bytes : (ns : List ℕ) → flat_map (λ n. n / 256 ∷ n % 256 ∷ []) ns ≡ pair_bytes ns
address-bytes [] = refl
address-bytes (n ∷ ns) = ap (λ l. n / 256 ∷ n % 256 ∷ l) (address-bytes ns)

abbrev SpellsAll : List ℕ → List ℕ → Type 0
SpellsAll text ns = AreGroups ns text ⊎ IsElided ns text

spell_at : (text ns : List ℕ) (o : Option (List ℕ × List ℕ)) → elided_at text ≡ o → numbers_of text o ≡ Some ns → (length ns ≡ 8) × AllSmall ns × SpellsAll text ns
spell_at text ns None at e =
    let b = bind_some (groups_of text) all_eight ns e in
    let kept = kept_some (length b.0 == 8) (Some b.0) ns b.2 in
    let g = groups_of-sound text b.0 b.1 in
    let P : List ℕ → Type 0 = λ l. (length l ≡ 8) × AllSmall l × SpellsAll text l in
    subst P (same_Some _ _ kept.1) (eqb-true (length b.0) 8 kept.0, groups_small b.0 text g, inl g)
spell_at text ns (Some sides) at e =
    let head = bind_some (groups_of sides.0) _ ns e in
    let tail = bind_some (groups_of sides.1) _ ns head.2 in
    let kept = kept_some (nat_lt (length head.0 + length tail.0) 8) (Some (head.0 ++ (replicate (8 - length head.0 - length tail.0) 0 ++ tail.0))) ns tail.2 in
    let few : length head.0 + length tail.0 < 8 = ltb-true (length head.0 + length tail.0) 8 kept.0 in
    let el : IsElided ns text = record {
      head = head.0;
      tail = tail.0;
      head_text = sides.0;
      tail_text = sides.1;
      head_groups = groups_of-sound sides.0 head.0 head.1;
      tail_groups = groups_of-sound sides.1 tail.0 tail.1;
      spelled = elided_parts text sides at;
      room = few;
      value = sym (same_Some _ _ kept.1);
    } in
    let whole = elided_is_whole text ns el in
    (whole_length text ns whole, whole_small text ns whole, inr el)

spelled_numbers : (text ns : List ℕ) → length ns ≡ 8 → SpellsAll text ns → numbers_of text (elided_at text) ≡ Some ns
spelled_numbers text [] eight (inl h) = absurd (omega (arith, eight))
spelled_numbers text (n ∷ ns) eight (inl h) = rw (no_elision n ns text h, groups_of-back (n ∷ ns) text h, eq-eqb (length (n ∷ ns)) 8 eight) refl
spelled_numbers text ns eight (inr el) =
    let at : elided_at text ≡ Some (el.head_text, el.tail_text) = ap elided_at el.spelled ∙ elision el.head el.head_text el.tail_text el.head_groups in
    let few : nat_lt (length el.head + length el.tail) 8 ≡ true = lt-ltb _ 8 el.room in
    rw (at, groups_of-back el.head el.head_text el.head_groups, groups_of-back el.tail el.tail_text el.tail_groups, few) (ap Some (sym el.value))

abbrev ip6 : List ℕ → Ip6
ip6 bytes = record { 0 = bytes }

pub ip6_of-sound : (ip : Ip6) (text : List ℕ) → ip6_of text ≡ Some ip → IsIp6 ip × Spells ip text
unfolding ip6_of
ip6_of-sound ip text e =
    let found = mapped_some address (numbers_of text (elided_at text)) ip e in
    let ns = found.0 in
    let h = spell_at text ns (elided_at text) refl found.1 in
    let Q : List ℕ → Type 0 = λ l. SpellsAll text l in
    let P : Ip6 → Type 0 = λ x. IsIp6 x × Spells x text in
    subst P (ap ip6 (sym (address-bytes ns)) ∙ found.2) (IsIp6-ip6_of ns h.0 h.1, subst Q (sym (groups-ip6_of ns h.0)) h.2)

pub ip6_of-spelled : (ip : Ip6) (text : List ℕ) → IsIp6 ip → Spells ip text → ip6_of text ≡ Some ip
unfolding ip6_of
ip6_of-spelled ip text is h = ap (option_map address) (spelled_numbers text (groups ip) refl h) ∙ ap (λ l. Some (ip6 l)) (address-bytes (groups ip) ∙ pair_bytes-groups ip is)

pub ip6_read : {E : Type 0} (text : List ℕ) (r : Result Ip6 E) → IfOk r (λ ip. IsIp6 ip × Spells ip text) → ((ip : Ip6) → IsIp6 ip → Spells ip text → r ≡ Ok ip) → result_ok r ≡ ip6_of text
ip6_read text r found only =
    as_read (λ ip. IsIp6 ip × Spells ip text) r (ip6_of text) found (λ ip h. only ip h.0 h.1) (λ ip. (ip6_of-sound ip text, λ h. ip6_of-spelled ip text h.0 h.1))
