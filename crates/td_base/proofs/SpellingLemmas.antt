-- The texts that spell groups, as they are read from their front.
use Rattle.td_base.proofs.Words.{AfterHead, AfterTail, AllByRecursion, AreGroups, Elided, GroupThen, IsElided, IsGroup, List, Tail, Whole, [], ap, append-nil, arith, digits_value-lt, get_or, inl, inr, length, length-replicate, lit≤, pow-le-pow_right, refl, replicate, suc, sym, zero, ℕ, ◌++◌, ◌+◌, ◌-◌, ◌<◌, ◌^◌, ◌∙◌, ◌∷◌, ◌≡◌, ◌≤◌, ◌⊎◌}
use Rattle.std.proofs.lemmas.List.{append_assoc, length-append}

-- ---- from what was read to what is spelled

-- `::` behind a group or more, in place of what `total` leaves
pub record ElidedIn (total : ℕ) (numbers text : List ℕ) : Type 0 where
  pub first : ℕ
  pub head : List ℕ
  pub tail : List ℕ
  pub head_text : List ℕ
  pub tail_text : List ℕ
  pub head_groups : AreGroups (first ∷ head) head_text
  pub tail_groups : AreGroups tail tail_text
  pub spelled : text ≡ head_text ++ 58 ∷ 58 ∷ tail_text
  pub room : suc (length head) + length tail < total
  pub value : numbers ≡ first ∷ (head ++ (replicate (total - suc (length head) - length tail) 0 ++ tail))

abbrev pub SpelledIn : ℕ → List ℕ → List ℕ → Type 0
SpelledIn total numbers text = (AreGroups numbers text × (length numbers ≡ total)) ⊎ ElidedIn total numbers text

one_group : (digits : List ℕ) (n : ℕ) → IsGroup digits n → AreGroups (n ∷ []) (digits ++ [])
one_group digits n is = rw (append-nil digits) is

after_tail_spells : (most : ℕ) (digits text : List ℕ) (n : ℕ) (ns : List ℕ) → IsGroup digits n → AfterTail most text ns → AreGroups (n ∷ ns) (digits ++ text) × (length ns ≤ most)
after_tail_spells zero digits text n ns is h = rw (h.0, h.1) (one_group digits n is, omega arith)
after_tail_spells (suc most) digits text n ns is (inl h) = rw (h.0, h.1) (one_group digits n is, omega arith)
after_tail_spells (suc most) digits text n ns is (inr h) =
    let g = h.2 in
    let later = after_tail_spells most g.0 g.1 g.2 g.3 g.4 g.5 in
    rw (g.7, h.1, g.6) ((digits, g.0 ++ g.1, is, later.0, refl), omega (arith, later.1))

tail_spells : (most : ℕ) (text ns : List ℕ) → Tail most text ns → AreGroups ns text × (length ns ≤ most)
tail_spells zero text ns h = rw (h.0, h.1) (refl, omega arith)
tail_spells (suc most) text ns (inl h) = rw (h.0, h.1) (refl, omega arith)
tail_spells (suc most) text ns (inr g) =
    let later = after_tail_spells most g.0 g.1 g.2 g.3 g.4 g.5 in
    rw (g.7, g.6) (later.0, omega (arith, later.1))

-- one group more
spelled_cons : (total : ℕ) (digits : List ℕ) (n m : ℕ) (ns text : List ℕ) → IsGroup digits n → SpelledIn total (m ∷ ns) text → SpelledIn (suc total) (n ∷ m ∷ ns) (digits ++ 58 ∷ text)
spelled_cons total digits n m ns text is (inl h) = inl ((digits, text, is, h.0, refl), omega (arith, h.1))
spelled_cons total digits n m ns text is (inr h) = inr (record {
  first = n;
  head = h.first ∷ h.head;
  tail = h.tail;
  head_text = digits ++ 58 ∷ h.head_text;
  tail_text = h.tail_text;
  head_groups = (digits, h.head_text, is, h.head_groups, refl);
  tail_groups = h.tail_groups;
  spelled = ap (λ (t : List ℕ). digits ++ 58 ∷ t) h.spelled ∙ sym (append_assoc digits (58 ∷ h.head_text) (58 ∷ 58 ∷ h.tail_text));
  room = omega (arith, h.room);
  value =
      let same : suc total - suc (suc (length h.head)) - length h.tail ≡ total - suc (length h.head) - length h.tail = omega arith in
      ap (λ (l : List ℕ). n ∷ l) h.value ∙ rw same refl;
})

after_head_spells : (m : ℕ) (digits text : List ℕ) (n : ℕ) (ns : List ℕ) → IsGroup digits n → AfterHead m text ns → SpelledIn (suc m) (n ∷ ns) (digits ++ text)
after_head_spells zero digits text n ns is h = rw (h.0, h.1) (inl (one_group digits n is, refl))
after_head_spells (suc m) digits text n ns is (rest, e, inl x) =
    let later = tail_spells m x.0 x.1 x.3 in
    inr (record {
      first = n;
      head = [];
      tail = x.1;
      head_text = digits;
      tail_text = x.0;
      head_groups = is;
      tail_groups = later.0;
      spelled = rw (e, x.2) refl;
      room = omega (arith, later.1);
      value =
          let same : suc (suc m) - 1 - length x.1 ≡ suc m - length x.1 = omega arith in
          rw (x.4, same) refl;
    })
after_head_spells (suc m) digits text n ns is (rest, e, inr g) =
    rw (g.7, e, g.6) (spelled_cons (suc m) digits n g.2 g.3 (g.0 ++ g.1) is (after_head_spells m g.0 g.1 g.2 g.3 g.4 g.5))

whole_elided : (text numbers : List ℕ) → ElidedIn 8 numbers text → IsElided numbers text
whole_elided text numbers h = record {
  head = h.first ∷ h.head;
  tail = h.tail;
  head_text = h.head_text;
  tail_text = h.tail_text;
  head_groups = h.head_groups;
  tail_groups = h.tail_groups;
  spelled = h.spelled;
  room = h.room;
  value = h.value;
}

leading_elided : (text rest numbers : List ℕ) → text ≡ 58 ∷ rest → Elided 7 rest numbers → IsElided numbers text
leading_elided text rest numbers e x =
    let later = tail_spells 7 x.0 x.1 x.3 in
    record {
      head = [];
      tail = x.1;
      head_text = [];
      tail_text = x.0;
      head_groups = refl;
      tail_groups = later.0;
      spelled = rw (e, x.2) refl;
      room = omega (arith, later.1);
      value = x.4;
    }

pub whole_spells : (text numbers : List ℕ) → Whole text numbers → (AreGroups numbers text × (length numbers ≡ 8)) ⊎ IsElided numbers text
whole_spells text numbers (inl h) = inr (leading_elided text h.0 numbers h.1 h.2)
whole_spells text numbers (inr g) =
    elim (after_head_spells 7 g.0 g.1 g.2 g.3 g.4 g.5) [
      | inl h ↦ inl (rw (g.7, g.6) h)
      | inr h ↦ inr (rw (g.7, g.6) (whole_elided _ _ h))
    ]

-- ---- from what is spelled to what is read

group_and_tail : (m n : ℕ) (ns text : List ℕ) → AreGroups (n ∷ ns) text → length ns ≤ m → GroupThen (AfterTail m) text (n ∷ ns)
group_and_tail zero n [] text is le = (text, [], n, [], is, (refl, refl), sym (append-nil text), refl)
group_and_tail (suc m) n [] text is le = (text, [], n, [], is, inl (refl, refl), sym (append-nil text), refl)
group_and_tail zero n (k ∷ ns) text is le = absurd (omega arith)
group_and_tail (suc m) n (k ∷ ns) text is le =
    (is.0, 58 ∷ is.1, n, k ∷ ns, is.2, inr (is.1, refl, group_and_tail m k ns is.1 is.3 (omega (arith, le))), is.4, refl)

tail_from : (most : ℕ) (ns text : List ℕ) → AreGroups ns text → length ns ≤ most → Tail most text ns
tail_from zero [] text is le = (is, refl)
tail_from (suc most) [] text is le = inl (is, refl)
tail_from zero (n ∷ ns) text is le = absurd (omega arith)
tail_from (suc most) (n ∷ ns) text is le = inr (group_and_tail most n ns text is (omega (arith, le)))

pub group_and_head : (n : ℕ) (ns text : List ℕ) → AreGroups (n ∷ ns) text → GroupThen (AfterHead (length ns)) text (n ∷ ns)
group_and_head n [] text is = (text, [], n, [], is, (refl, refl), sym (append-nil text), refl)
group_and_head n (k ∷ ns) text is = (is.0, 58 ∷ is.1, n, k ∷ ns, is.2, (is.1, refl, inr (group_and_head k ns is.1 is.3)), is.4, refl)

-- groups, and the text that they are
record Written : Type 0 where
  pub numbers : List ℕ
  pub text : List ℕ
  pub are : AreGroups numbers text

group_and_elided : (m n : ℕ) (head text : List ℕ) (tail : Written) → AreGroups (n ∷ head) text → length head + length tail.numbers < m
    → GroupThen (AfterHead m) (text ++ 58 ∷ 58 ∷ tail.text) (n ∷ (head ++ (replicate (m - length head - length tail.numbers) 0 ++ tail.numbers)))
group_and_elided zero n head text tail is lt = absurd (omega arith)
group_and_elided (suc m) n [] text tail is lt =
    let same : suc m - 0 - length tail.numbers ≡ suc m - length tail.numbers = omega arith in (
      text,
      58 ∷ 58 ∷ tail.text,
      n,
      replicate (suc m - length tail.numbers) 0 ++ tail.numbers,
      is,
      (58 ∷ tail.text, refl, inl (tail.text, tail.numbers, refl, tail_from m tail.numbers tail.text tail.are (omega (arith, lt)), refl)),
      refl,
      rw same refl,
    )
group_and_elided (suc m) n (k ∷ head) text tail is lt =
    let same : suc m - suc (length head) - length tail.numbers ≡ m - length head - length tail.numbers = omega arith in
    let later = group_and_elided m k head is.1 tail is.3 (omega (arith, lt)) in (
      is.0,
      58 ∷ (is.1 ++ 58 ∷ 58 ∷ tail.text),
      n,
      _,
      is.2,
      (is.1 ++ 58 ∷ 58 ∷ tail.text, refl, inr later),
      ap (λ (t : List ℕ). t ++ 58 ∷ 58 ∷ tail.text) is.4 ∙ append_assoc is.0 (58 ∷ is.1) (58 ∷ 58 ∷ tail.text),
      rw same refl,
    )

pub elided_is_whole : (text numbers : List ℕ) → IsElided numbers text → Whole text numbers
elided_is_whole text numbers h = by_head h.head h.head_groups h.room h.value
  where
    by_head : (head : List ℕ) → AreGroups head h.head_text → length head + length h.tail < 8 → numbers ≡ head ++ (replicate (8 - length head - length h.tail) 0 ++ h.tail) → Whole text numbers
    by_head [] is room value =
        inl (58 ∷ h.tail_text, h.spelled ∙ ap (λ (t : List ℕ). t ++ 58 ∷ 58 ∷ h.tail_text) is, (h.tail_text, h.tail, refl, tail_from 7 h.tail h.tail_text h.tail_groups (omega (arith, room)), value))
    by_head (n ∷ head) is room value =
        let same : 8 - suc (length head) - length h.tail ≡ 7 - length head - length h.tail = omega arith in
        let value' : numbers ≡ n ∷ (head ++ (replicate (7 - length head - length h.tail) 0 ++ h.tail)) = rw same at value in
        inr (rw (h.spelled, value') (group_and_elided 7 n head h.head_text (record { numbers = h.tail; text = h.tail_text; are = h.tail_groups }) is (omega (arith, room))))

-- ---- how many numbers, and how large

abbrev pub AllSmall : List ℕ → Type 0
AllSmall ns = (k : ℕ) → get_or ns k 0 < 2 ^ 16

-- numbers that are written out
pub each_small : (ns : List ℕ) → AllByRecursion (λ n. n < 2 ^ 16) ns → AllSmall ns
each_small [] all k = omega arith
each_small (n ∷ ns) all zero = all.0
each_small (n ∷ ns) all (suc k) = each_small ns all.1 k

pub AllSmall-nil : AllSmall []
AllSmall-nil k = omega arith

pub AllSmall-cons : (n : ℕ) (ns : List ℕ) → n < 2 ^ 16 → AllSmall ns → AllSmall (n ∷ ns)
AllSmall-cons n ns lt small zero = lt
AllSmall-cons n ns lt small (suc k) = small k

AllSmall-append : (xs ys : List ℕ) → AllSmall xs → AllSmall ys → AllSmall (xs ++ ys)
AllSmall-append [] ys h small = small
AllSmall-append (x ∷ xs) ys h small = AllSmall-cons x (xs ++ ys) (h 0) (AllSmall-append xs ys (λ k. h (suc k)) small)

AllSmall-zeros : (n : ℕ) → AllSmall (replicate n 0)
AllSmall-zeros zero = AllSmall-nil
AllSmall-zeros (suc n) = AllSmall-cons 0 (replicate n 0) (omega arith) (AllSmall-zeros n)

group_small : (digits : List ℕ) (n : ℕ) → IsGroup digits n → n < 2 ^ 16
group_small digits n is =
    let below = digits_value-lt 16 digits is.0.1 in
    let most : 16 ^ length digits ≤ 16 ^ 4 = pow-le-pow_right (lit≤ tt) is.2 in
    omega (arith, below, most, is.1)

pub groups_small : (ns text : List ℕ) → AreGroups ns text → AllSmall ns
groups_small [] text is = AllSmall-nil
groups_small (n ∷ []) text is = AllSmall-cons n [] (group_small text n is) AllSmall-nil
groups_small (n ∷ m ∷ ns) text is = AllSmall-cons n (m ∷ ns) (group_small is.0 n is.2) (groups_small (m ∷ ns) is.1 is.3)

elided_small : (numbers text : List ℕ) → IsElided numbers text → AllSmall numbers
elided_small numbers text h =
    rw h.value (AllSmall-append _ _ (groups_small _ _ h.head_groups) (AllSmall-append _ _ (AllSmall-zeros _) (groups_small _ _ h.tail_groups)))

elided_length : (numbers text : List ℕ) → IsElided numbers text → length numbers ≡ 8
elided_length numbers text h =
    let zeros : List ℕ = replicate (8 - length h.head - length h.tail) 0 in
    omega (arith, ap length h.value, length-append h.head (zeros ++ h.tail), length-append zeros h.tail, length-replicate {A = ℕ} (8 - length h.head - length h.tail) 0, h.room)

pub whole_length : (text numbers : List ℕ) → Whole text numbers → length numbers ≡ 8
whole_length text numbers w = elim (whole_spells text numbers w) [ inl h ↦ h.1 | inr h ↦ elided_length numbers text h ]

pub whole_small : (text numbers : List ℕ) → Whole text numbers → AllSmall numbers
whole_small text numbers w = elim (whole_spells text numbers w) [ inl h ↦ groups_small numbers text h.0 | inr h ↦ elided_small numbers text h ]
