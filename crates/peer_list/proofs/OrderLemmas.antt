-- The keys of those entries for which packets wait, in the order in which these are due: what is put among them, and what is taken out.
use Rattle.peer_list.proofs.Words.{AllByRecursion, AreDueButOnce, AreDueOnce, AreInTurn, Bool, Ip6, IsPartitionedBy, IsPlaceFor, List, Listing, Millis, Option, Slab, Some, [], all_map, ap, arith, cond, count_by, drop, entry_due, eq-eqb, eqb-false, eqb-true, false, false≢true, filter, get, get_or, inl, inr, insert, is_before, is_some, is_sooner, keys_without, length, nat_eq, ne_eqb, not, refl, remove, subst, suc, sum_by-cons, sym, take, take-append-drop, true, zero, ℕ, ⊎_elim, ◌&&◌, ◌++◌, ◌+◌, ◌<◌, ◌∙◌, ◌∷◌, ◌≡◌, ◌≤◌, ◌⊎◌}
use Rattle.peer_list.proofs.FirstLemmas.{sooner_back, sooner_through}
use Rattle.peer_list.proofs.Lists.{all_kept}
use Rattle.peer_list.proofs.ListingLemmas.{all_at}

-- LISTS OF NUMBERS

all_pass : (test : ℕ → Bool) (ks : List ℕ) → AllByRecursion (λ k. test k ≡ true) (filter test ks)
all_pass test [] = tt
all_pass test (k ∷ ks) = by_test (test k) refl (all_pass test ks) where
  by_test : (b : Bool) → test k ≡ b → AllByRecursion (λ x. test x ≡ true) (filter test ks) → AllByRecursion (λ x. test x ≡ true) (cond b (k ∷ filter test ks) (filter test ks))
  by_test true h rest = (h, rest)
  by_test false h rest = rest

all_more : (P : ℕ → Type 0) (xs ys : List ℕ) (y : ℕ) → P y → AllByRecursion P (xs ++ ys) → AllByRecursion P (xs ++ y ∷ ys)
all_more P [] ys y h a = (h, a)
all_more P (x ∷ xs) ys y h a = (a.0, all_more P xs ys y h a.1)

front_all : (P : ℕ → Type 0) (ls : List ℕ) (i : ℕ) → i ≤ length ls → ((k d : ℕ) → 0 ≤ k → k < i → P (get_or ls k d)) → AllByRecursion P (take i ls)
front_all P ls zero l f = tt
front_all P [] (suc i) l f = absurd (omega arith)
front_all P (x ∷ ls) (suc i) l f = (f 0 x (omega arith) (omega arith), front_all P ls i (omega arith) (λ k d z b. f (suc k) d (omega arith) (omega (arith, b))))

back_all : (P : ℕ → Type 0) (ls : List ℕ) (i : ℕ) → ((k d : ℕ) → i ≤ k → k < length ls → P (get_or ls k d)) → AllByRecursion P (drop i ls)
back_all P [] zero f = tt
back_all P [] (suc i) f = tt
back_all P (x ∷ ls) zero f = (f 0 x (omega arith) (omega arith), back_all P ls zero (λ k d z b. f (suc k) d (omega arith) (omega (arith, b))))
back_all P (x ∷ ls) (suc i) f = back_all P ls i (λ k d z b. f (suc k) d (omega (arith, z)) (omega (arith, b)))

-- HOW OFTEN A KEY STANDS THERE

abbrev pub one_if : Bool → ℕ
one_if b = cond b 1 0

pub count_cons : (test : ℕ → Bool) (x : ℕ) (xs : List ℕ) → count_by test (x ∷ xs) ≡ one_if (test x) + count_by test xs
count_cons test x xs = sum_by-cons (λ y. cond (test y) 1 0) x xs

eq_turned : (a b : ℕ) → nat_eq a b ≡ false → nat_eq b a ≡ false
eq_turned a b h = ne_eqb b a (λ same. eqb-false a b h (sym same))

-- a key that stands in no place differs from each
none_there : (key : ℕ) (ks : List ℕ) → count_by (nat_eq key) ks ≡ 0 → AllByRecursion (λ k. nat_eq key k ≡ false) ks
none_there key [] h = tt
none_there key (k ∷ ks) h = by_test (nat_eq key k) refl (none_there key ks) where
  by_test : (b : Bool) → nat_eq key k ≡ b → (count_by (nat_eq key) ks ≡ 0 → AllByRecursion (λ x. nat_eq key x ≡ false) ks) → AllByRecursion (λ x. nat_eq key x ≡ false) (k ∷ ks)
  by_test true e rest = absurd (let one = count_cons (nat_eq key) k ks in let here : one_if (nat_eq key k) ≡ 1 = ap one_if e in omega (arith, one, here, h))
  by_test false e rest =
      let one = count_cons (nat_eq key) k ks in
      let here : one_if (nat_eq key k) ≡ 0 = ap one_if e in
      (e, rest (omega (arith, one, here, h)))

-- whoever stands there is counted
pub counted_at : (ks : List ℕ) (i d : ℕ) → i < length ks → 0 < count_by (nat_eq (get_or ks i d)) ks
counted_at [] i d k = absurd (omega arith)
counted_at (x ∷ ks) zero d k =
    let one = count_cons (nat_eq x) x ks in
    let here : one_if (nat_eq x x) ≡ 1 = ap one_if (eq-eqb x x refl) in
    omega (arith, one, here)
counted_at (x ∷ ks) (suc i) d k =
    let one = count_cons (nat_eq (get_or ks i d)) x ks in
    let rest = counted_at ks i d (omega arith) in
    omega (arith, one, rest)

-- and whatever is counted stands there
pub place_of : (key : ℕ) (ks : List ℕ) → 0 < count_by (nat_eq key) ks → (i : ℕ) × (i < length ks) × ((d : ℕ) → get_or ks i d ≡ key)
place_of key [] h = absurd (omega (arith, h))
place_of key (k ∷ ks) h = by_test (nat_eq key k) refl (place_of key ks) where
  by_test : (b : Bool) → nat_eq key k ≡ b → (0 < count_by (nat_eq key) ks → (i : ℕ) × (i < length ks) × ((d : ℕ) → get_or ks i d ≡ key)) → (i : ℕ) × (i < length (k ∷ ks)) × ((d : ℕ) → get_or (k ∷ ks) i d ≡ key)
  by_test true e rest = (0, omega arith, λ d. sym (eqb-true key k e))
  by_test false e rest =
      let one = count_cons (nat_eq key) k ks in
      let here : one_if (nat_eq key k) ≡ 0 = ap one_if e in
      let there = rest (omega (arith, one, here, h)) in
      (suc there.0, omega (arith, there.1), there.2)

-- those that pass a test
pub count_kept : (key : ℕ) (test : ℕ → Bool) (ks : List ℕ) → count_by (nat_eq key) (filter test ks) ≡ cond (test key) (count_by (nat_eq key) ks) 0
count_kept key test [] = by_test (test key) where
  by_test : (b : Bool) → count_by (nat_eq key) [] ≡ cond b (count_by (nat_eq key) []) 0
  by_test true = refl
  by_test false = refl
count_kept key test (k ∷ ks) = by_both (nat_eq key k) (test k) (test key) refl refl refl (count_kept key test ks) where
  by_both : (b c t : Bool) → nat_eq key k ≡ b → test k ≡ c → test key ≡ t
      → count_by (nat_eq key) (filter test ks) ≡ cond (test key) (count_by (nat_eq key) ks) 0
      → count_by (nat_eq key) (cond (test k) (k ∷ filter test ks) (filter test ks)) ≡ cond (test key) (count_by (nat_eq key) (k ∷ ks)) 0
  by_both true true true e c t rest =
      let one = count_cons (nat_eq key) k ks in
      let two = count_cons (nat_eq key) k (filter test ks) in
      let here : count_by (nat_eq key) (filter test ks) ≡ count_by (nat_eq key) ks = rest ∙ ap (λ x. cond x (count_by (nat_eq key) ks) 0) t in
      rw (c, t) (omega (arith, one, two, here))
  by_both true true false e c t rest = absurd (false≢true (sym t ∙ ap test (eqb-true key k e) ∙ c))
  by_both true false true e c t rest = absurd (false≢true (sym c ∙ sym (ap test (eqb-true key k e)) ∙ t))
  by_both true false false e c t rest = rw (c, t) (rest ∙ ap (λ x. cond x (count_by (nat_eq key) ks) 0) t)
  by_both false true t e c f rest =
      let here : one_if (nat_eq key k) ≡ 0 = ap one_if e in
      let one = count_cons (nat_eq key) k ks in
      let two = count_cons (nat_eq key) k (filter test ks) in
      let same : count_by (nat_eq key) (k ∷ ks) ≡ count_by (nat_eq key) ks = omega (arith, one, here) in
      let same_too : count_by (nat_eq key) (k ∷ filter test ks) ≡ count_by (nat_eq key) (filter test ks) = omega (arith, two, here) in
      rw c (same_too ∙ rest ∙ ap (λ n. cond (test key) n 0) (sym same))
  by_both false false t e c f rest =
      let here : one_if (nat_eq key k) ≡ 0 = ap one_if e in
      let one = count_cons (nat_eq key) k ks in
      let same : count_by (nat_eq key) (k ∷ ks) ≡ count_by (nat_eq key) ks = omega (arith, one, here) in
      rw c (rest ∙ ap (λ n. cond (test key) n 0) (sym same))

-- one that stands there once makes the rest shorter
pub shorter_without : (key : ℕ) (ks : List ℕ) → 0 < count_by (nat_eq key) ks → length (keys_without key ks) < length ks
shorter_without key [] h = absurd (omega (arith, h))
shorter_without key (k ∷ ks) h = by_test (nat_eq k key) refl (shorter_without key ks) where
  by_test : (b : Bool) → nat_eq k key ≡ b → (0 < count_by (nat_eq key) ks → length (keys_without key ks) < length ks) → length (cond (not b) (k ∷ keys_without key ks) (keys_without key ks)) < length (k ∷ ks)
  by_test true e rest = let less = at_most ks in omega (arith, less) where
    at_most : (xs : List ℕ) → length (keys_without key xs) ≤ length xs
    at_most [] = omega arith
    at_most (x ∷ xs) = by (not (nat_eq x key)) (at_most xs) where
      by : (b : Bool) → length (keys_without key xs) ≤ length xs → length (cond b (x ∷ keys_without key xs) (keys_without key xs)) ≤ length (x ∷ xs)
      by true l = omega (arith, l)
      by false l = omega (arith, l)
  by_test false e rest =
      let other : nat_eq key k ≡ false = differ (nat_eq key k) refl in
      let one = count_cons (nat_eq key) k ks in
      let here : one_if (nat_eq key k) ≡ 0 = ap one_if other in
      let less = rest (omega (arith, one, here, h)) in
      omega (arith, less)
    where
      differ : (b : Bool) → nat_eq key k ≡ b → nat_eq key k ≡ false
      differ false d = d
      differ true d = absurd (false≢true (sym e ∙ eq-eqb k key (sym (eqb-true key k d))))

le_split : (i j : ℕ) → i ≤ j → (i < j) ⊎ (i ≡ j)
le_split zero zero l = inr refl
le_split zero (suc j) l = inl (omega arith)
le_split (suc i) zero l = absurd (omega arith)
le_split (suc i) (suc j) l = ⊎_elim (λ (b : i < j). inl (omega (arith, b))) (λ (e : i ≡ j). inr (ap suc e)) (le_split i j (omega arith))

-- one, where packets wait for an entry
abbrev pub one_due : Option Listing → ℕ
one_due o = one_if (is_some (entry_due o))

-- IN TURN

module _ (s : Slab Listing) where
  abbrev due : ℕ → Option (Millis × Ip6)
  due k = entry_due (get s k)

  pub turn_at : (ks : List ℕ) (i j d : ℕ) → i < j → j < length ks → AreInTurn s ks → is_sooner (due (get_or ks j d)) (due (get_or ks i d)) ≡ false
  turn_at [] i j d k l a = absurd (omega arith)
  turn_at (x ∷ ks) i zero d k l a = absurd (omega arith)
  turn_at (x ∷ ks) zero (suc j) d k l a = all_at (λ later. is_sooner (due later) (due x) ≡ false) ks j d (omega arith) a.0
  turn_at (x ∷ ks) (suc i) (suc j) d k l a = turn_at ks i j d (omega arith) (omega arith) a.1

  pub turn_kept : (test : ℕ → Bool) (ks : List ℕ) → AreInTurn s ks → AreInTurn s (filter test ks)
  turn_kept test [] a = tt
  turn_kept test (k ∷ ks) a = elim (test k) as (λ b. AreInTurn s (cond b (k ∷ filter test ks) (filter test ks)))
      [ true ↦ (all_kept (λ later. is_sooner (due later) (due k) ≡ false) test ks a.0, turn_kept test ks a.1) | false ↦ turn_kept test ks a.1 ]

  turn_more : (xs ys : List ℕ) (y : ℕ) → AllByRecursion (λ x. is_sooner (due y) (due x) ≡ false) xs → AllByRecursion (λ x. is_sooner (due x) (due y) ≡ false) ys → AreInTurn s (xs ++ ys) → AreInTurn s (xs ++ y ∷ ys)
  turn_more [] ys y before behind a = (behind, a)
  turn_more (x ∷ xs) ys y before behind a = (all_more (λ later. is_sooner (due later) (due x) ≡ false) xs ys y before.0 a.0, turn_more xs ys y before.1 behind a.1)

  -- what isn't due later
  abbrev pub stays : Millis × Ip6 → ℕ → Bool
  stays next other = not (is_before next (due other))

  not_of : (b : Bool) → not b ≡ true → b ≡ false
  not_of true h = absurd (false≢true h)
  not_of false h = refl

  not_not : (b : Bool) → not b ≡ false → b ≡ true
  not_not true h = refl
  not_not false h = absurd (false≢true (sym h))

  pub parted : (ks : List ℕ) (next : Millis × Ip6) → AreInTurn s ks → IsPartitionedBy (stays next) ks
  parted ks next a i j d le lt late = ⊎_elim
      (λ (below : i < j). by_test (is_before next (due (get_or ks i d))) refl (turn_at ks i j d below lt a))
      (λ (same : i ≡ j). subst (λ k. stays next (get_or ks k d) ≡ true) (sym same) late)
      (le_split i j le)
    where
      by_test : (b : Bool) → is_before next (due (get_or ks i d)) ≡ b → is_sooner (due (get_or ks j d)) (due (get_or ks i d)) ≡ false → not b ≡ true
      by_test false e t = refl
      by_test true e t =
          let soon = sooner_through (Some next) (due (get_or ks i d)) (due (get_or ks j d)) e t in
          absurd (false≢true (sym (not_of (is_before next (due (get_or ks j d))) late) ∙ soon))

  pub turn_put : (ks : List ℕ) (i key : ℕ) (next : Millis × Ip6) → Some next ≡ due key → i ≤ length ks → IsPlaceFor s ks next i → AreInTurn s ks
      → AreInTurn s (insert ks i key)
  turn_put ks i key next is within point a =
      turn_more (take i ks) (drop i ks) key
      (all_map (λ k. stays next k ≡ true) (λ k. is_sooner (due key) (due k) ≡ false) (take i ks) not_sooner
      (front_all (λ k. stays next k ≡ true) ks i within point.0))
      (all_map (λ k. stays next k ≡ false) (λ k. is_sooner (due k) (due key) ≡ false) (drop i ks) not_later
      (back_all (λ k. stays next k ≡ false) ks i point.1))
      (subst (AreInTurn s) (sym (take-append-drop i ks)) a)
    where
      not_sooner : (k : ℕ) → stays next k ≡ true → is_sooner (due key) (due k) ≡ false
      not_sooner k h = ap (λ o. is_sooner o (due k)) (sym is) ∙ not_of (is_before next (due k)) h

      not_later : (k : ℕ) → stays next k ≡ false → is_sooner (due k) (due key) ≡ false
      not_later k h = ap (is_sooner (due k)) (sym is) ∙ sooner_back (Some next) (due k) (not_not (is_before next (due k)) h)

-- WHERE THE ENTRIES CHANGE

turn_all : (s t : Slab Listing) (ks : List ℕ) → AllByRecursion (λ k. entry_due (get t k) ≡ entry_due (get s k)) ks → AreInTurn s ks → AreInTurn t ks
turn_all s t [] e a = tt
turn_all s t (k ∷ ks) e a = (first ks e.1 a.0, turn_all s t ks e.1 a.1) where
  first : (xs : List ℕ) → AllByRecursion (λ x. entry_due (get t x) ≡ entry_due (get s x)) xs
      → AllByRecursion (λ later. is_sooner (entry_due (get s later)) (entry_due (get s k)) ≡ false) xs
      → AllByRecursion (λ later. is_sooner (entry_due (get t later)) (entry_due (get t k)) ≡ false) xs
  first [] e' a' = tt
  first (x ∷ xs) e' a' = (ap (λ o. is_sooner o (entry_due (get t k))) e'.0 ∙ ap (is_sooner (entry_due (get s x))) e.0 ∙ a'.0, first xs e'.1 a'.1)

all_of : (P : ℕ → Type 0) (ks : List ℕ) → ((k : ℕ) → P k) → AllByRecursion P ks
all_of P [] f = tt
all_of P (k ∷ ks) f = (f k, all_of P ks f)

-- none is due at another moment
pub turn_same : (s t : Slab Listing) (ks : List ℕ) → ((k : ℕ) → entry_due (get t k) ≡ entry_due (get s k)) → AreInTurn s ks → AreInTurn t ks
turn_same s t ks e a = turn_all s t ks (all_of (λ k. entry_due (get t k) ≡ entry_due (get s k)) ks e) a

-- of those that pass a test none is
pub turn_passing : (s t : Slab Listing) (test : ℕ → Bool) (ks : List ℕ) → ((k : ℕ) → test k ≡ true → get t k ≡ get s k) → AreInTurn s ks → AreInTurn t (filter test ks)
turn_passing s t test ks e a =
    turn_all s t (filter test ks) (all_map (λ k. test k ≡ true) (λ k. entry_due (get t k) ≡ entry_due (get s k)) (filter test ks) (λ k h. ap entry_due (e k h)) (all_pass test ks)) (turn_kept s test ks a)

-- an entry is added, or changed that stands in no place
pub turn_other : (s t : Slab Listing) (key : ℕ) (ks : List ℕ) → count_by (nat_eq key) ks ≡ 0 → ((k : ℕ) → (k ≡ key → ⊥) → get t k ≡ get s k) → AreInTurn s ks → AreInTurn t ks
turn_other s t key ks none e a =
    turn_all s t ks (all_map (λ k. nat_eq key k ≡ false) (λ k. entry_due (get t k) ≡ entry_due (get s k)) ks (λ k h. ap entry_due (e k (λ same. eqb-false key k h (sym same)))) (none_there key ks none)) a

-- WHERE ONE IS TAKEN OUT AND PUT AGAIN

pub once_settled : (s : Slab Listing) (key : ℕ) (before : Option (Millis × Ip6)) (ks new : List ℕ) → AreDueButOnce s key before ks
    → ((k : ℕ) → count_by (nat_eq k) new ≡ count_by (nat_eq k) (keys_without key ks) + one_if (nat_eq k key && is_some (entry_due (get s key))))
    → AreDueOnce s new
once_settled s key before ks new once put k = by_test (nat_eq k key) refl (put k) (count_kept k (λ other. not (nat_eq other key)) ks) (once k) where
  kept : ℕ
  kept = count_by (nat_eq k) (keys_without key ks)

  by_test : (b : Bool) → nat_eq k key ≡ b → count_by (nat_eq k) new ≡ kept + one_if (b && is_some (entry_due (get s key)))
      → kept ≡ cond (not b) (count_by (nat_eq k) ks) 0
      → count_by (nat_eq k) ks ≡ one_if (is_some (cond b before (entry_due (get s k)))) → count_by (nat_eq k) new ≡ one_if (is_some (entry_due (get s k)))
  by_test true e more rest was =
      let same : one_if (is_some (entry_due (get s k))) ≡ one_if (is_some (entry_due (get s key))) = ap (λ i. one_due (get s i)) (eqb-true k key e) in
      omega (arith, more, rest, same)
  by_test false e more rest was = omega (arith, more, rest, was)

-- none is a key that differs from each
all_differ : (key : ℕ) (ks : List ℕ) → AllByRecursion (λ k. nat_eq key k ≡ false) ks → keys_without key ks ≡ ks
all_differ key [] a = refl
all_differ key (k ∷ ks) a =
    let differs : nat_eq k key ≡ false = eq_turned key k a.0 in
    ap (λ b. cond (not b) (k ∷ keys_without key ks) (keys_without key ks)) differs ∙ ap (λ (xs : List ℕ). k ∷ xs) (all_differ key ks a.1)

pub none_out : (key : ℕ) (ks : List ℕ) → count_by (nat_eq key) ks ≡ 0 → ks ≡ keys_without key ks
none_out key ks none = sym (all_differ key ks (none_there key ks none))

-- a list without the place of a key that stands there once is the list without that key
pub taken_out : (key : ℕ) (ks : List ℕ) (i : ℕ) → count_by (nat_eq key) ks ≡ 1 → i < length ks → get_or ks i 0 ≡ key → remove ks i ≡ keys_without key ks
taken_out key [] i h k at = absurd (omega arith)
taken_out key (x ∷ ks) zero h k at =
    let one = count_cons (nat_eq key) x ks in
    let here : one_if (nat_eq key x) ≡ 1 = ap one_if (eq-eqb key x (sym at)) in
    let gone : keys_without key (x ∷ ks) ≡ keys_without key ks = ap (λ b. cond (not b) (x ∷ keys_without key ks) (keys_without key ks)) (eq-eqb x key at) in
    sym (gone ∙ all_differ key ks (none_there key ks (omega (arith, one, here, h))))
taken_out key (x ∷ ks) (suc i) h k at = by_test (nat_eq key x) refl (subst (λ y. 0 < count_by (nat_eq y) ks) at (counted_at ks i 0 (omega arith))) (λ one. taken_out key ks i one (omega arith) at) where
  by_test : (b : Bool) → nat_eq key x ≡ b → 0 < count_by (nat_eq key) ks → (count_by (nat_eq key) ks ≡ 1 → remove ks i ≡ keys_without key ks) → remove (x ∷ ks) (suc i) ≡ keys_without key (x ∷ ks)
  by_test true e more rest =
      let one = count_cons (nat_eq key) x ks in
      let here : one_if (nat_eq key x) ≡ 1 = ap one_if e in
      absurd (omega (arith, one, here, h, more))
  by_test false e more rest =
      let one = count_cons (nat_eq key) x ks in
      let here : one_if (nat_eq key x) ≡ 0 = ap one_if e in
      ap (λ (xs : List ℕ). x ∷ xs) (rest (omega (arith, one, here, h))) ∙ sym (ap (λ b. cond (not b) (x ∷ keys_without key ks) (keys_without key ks)) (eq_turned key x e))

-- where it stands at no place before this one, nor here, it stands behind
pub stands_behind : (key place : ℕ) (ks : List ℕ) → count_by (nat_eq key) ks ≡ 1 → ((i : ℕ) → i < length ks → get_or ks i 0 ≡ key → place ≤ i) → (get_or ks place 0 ≡ key → ⊥)
    → (place + 1 < length ks) × ((i : ℕ) → i < length ks → get_or ks i 0 ≡ key → place + 1 ≤ i)
stands_behind key place ks once back differs =
    let more : (i : ℕ) → i < length ks → get_or ks i 0 ≡ key → place + 1 ≤ i = λ i k at. one_more i (back i k at) (λ same. differs (ap (λ j. get_or ks j 0) same ∙ at)) in
    let p = place_of key ks (omega (arith, once)) in
    let after = more p.0 p.1 (p.2 0) in
    let within = p.1 in
    (omega (arith, after, within), more)
  where
    one_more : (i : ℕ) → place ≤ i → (place ≡ i → ⊥) → place + 1 ≤ i
    one_more i le ne = ⊎_elim (λ (lt : place < i). omega (arith, lt)) (λ (e : place ≡ i). absurd (ne e)) (le_split place i le)

-- there is room for a key that was taken out, and for one that wasn't there
pub room_without : (key cap : ℕ) (ks : List ℕ) (b : Bool) → count_by (nat_eq key) ks ≡ one_if b → (b ≡ false → length ks < cap) → length ks ≤ cap
    → length (keys_without key ks) < cap
room_without key cap ks true once room fits = let less = shorter_without key ks (omega (arith, once)) in omega (arith, less, fits)
room_without key cap ks false once room fits = subst (λ (xs : List ℕ). length xs < cap) (none_out key ks once) (room refl)

-- PACKETS WAIT FOR THE ENTRY OF A KEY THAT STANDS THERE

pub due_at_place : (s : Slab Listing) (ks : List ℕ) (i d : ℕ) → AreDueOnce s ks → i < length ks → is_some (entry_due (get s (get_or ks i d))) ≡ true
due_at_place s ks i d once k = by_test (is_some (entry_due (get s (get_or ks i d)))) refl where
  by_test : (b : Bool) → is_some (entry_due (get s (get_or ks i d))) ≡ b → is_some (entry_due (get s (get_or ks i d))) ≡ true
  by_test true e = e
  by_test false e =
      let none : one_if (is_some (entry_due (get s (get_or ks i d)))) ≡ 0 = ap one_if e in
      let some = counted_at ks i d k in
      let is = once (get_or ks i d) in
      absurd (omega (arith, none, some, is))
