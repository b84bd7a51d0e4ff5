-- Keys that are all different, and all have an entry, are no more than the entries.
use Rattle.peer_list.proofs.Words.{AreDueButOnce, AreDueOnce, AreWholeBut, BTreeMap, Bool, Entries, Ip6, List, Listing, Millis, NameEachOther, None, Option, Slab, Some, [], ap, arith, cmp_ip6, cond, count_by, entry_due, eq-eqb, eqb-true, false, false≢true, get, is_at, is_eq, is_some, length, lookup, nat_eq, refl, suc, sym, true, unwrap_or, vec_capacity, ℕ, ◌+◌, ◌<◌, ◌∙◌, ◌∷◌, ◌≡◌, ◌≤◌}
use Rattle.peer_list.proofs.OrderLemmas.{one_if, count_cons}

-- a list without one that stands there
record Without (x : ℕ) (ys : List ℕ) : Type 0 where
  rest : List ℕ
  long : length ys ≡ suc (length rest)
  count : (k : ℕ) → count_by (nat_eq k) ys ≡ one_if (nat_eq k x) + count_by (nat_eq k) rest

without : (x : ℕ) (ys : List ℕ) → 0 < count_by (nat_eq x) ys → Without x ys
without x [] h = absurd (omega (arith, h))
without x (y ∷ ys) h = by_test (nat_eq x y) refl (without x ys) where
  by_test : (b : Bool) → nat_eq x y ≡ b → (0 < count_by (nat_eq x) ys → Without x ys) → Without x (y ∷ ys)
  by_test true e more = record {
    rest = ys;
    long = refl;
    count = λ k. count_cons (nat_eq k) y ys ∙ ap (λ z. one_if (nat_eq k z) + count_by (nat_eq k) ys) (sym (eqb-true x y e));
  }
  by_test false e more =
      let one = count_cons (nat_eq x) y ys in
      let here : one_if (nat_eq x y) ≡ 0 = ap one_if e in
      let w = more (omega (arith, one, here, h)) in
      record {
        rest = y ∷ w.rest;
        long = ap suc w.long;
        count = λ k.
            let front = count_cons (nat_eq k) y ys in
            let back = count_cons (nat_eq k) y w.rest in
            let same = w.count k in
            omega (arith, front, back, same);
      }

-- where none stands in one list more often than in another, the one isn't longer
no_longer : (xs ys : List ℕ) → ((k : ℕ) → count_by (nat_eq k) xs ≤ count_by (nat_eq k) ys) → length xs ≤ length ys
no_longer [] ys h = omega arith
no_longer (x ∷ xs) ys h =
    let front = count_cons (nat_eq x) x xs in
    let here : one_if (nat_eq x x) ≡ 1 = ap one_if (eq-eqb x x refl) in
    let most = h x in
    let w = without x ys (omega (arith, front, here, most)) in
    let rest = no_longer xs w.rest (λ k.
    let front = count_cons (nat_eq k) x xs in
    let most = h k in
    let same = w.count k in
    omega (arith, front, most, same)) in
    let long = w.long in
    omega (arith, rest, long)

-- the keys of an index
keys_in : List (Ip6 × ℕ) → List ℕ
keys_in [] = []
keys_in (pair ∷ pairs) = pair.1 ∷ keys_in pairs

as_long : (pairs : List (Ip6 × ℕ)) → length (keys_in pairs) ≡ length pairs
unfolding keys_in
as_long [] = refl
as_long (pair ∷ pairs) = ap suc (as_long pairs)

found_in : (p : Ip6) (key : ℕ) (pairs : List (Ip6 × ℕ)) → lookup (is_at (cmp_ip6 p)) pairs ≡ Some key → 0 < count_by (nat_eq key) (keys_in pairs)
unfolding keys_in
found_in p key [] h = absurd (false≢true (ap is_some h))
found_in p key (pair ∷ pairs) h = by_test (is_eq (cmp_ip6 p pair.0)) h (found_in p key pairs) where
  by_test : (b : Bool) → cond b (Some pair.1) (lookup (is_at (cmp_ip6 p)) pairs) ≡ Some key
      → (lookup (is_at (cmp_ip6 p)) pairs ≡ Some key → 0 < count_by (nat_eq key) (keys_in pairs)) → 0 < count_by (nat_eq key) (pair.1 ∷ keys_in pairs)
  by_test true e rest =
      let same : key ≡ pair.1 = sym (ap (λ o. unwrap_or o 0) e) in
      let one = count_cons (nat_eq key) pair.1 (keys_in pairs) in
      let here : one_if (nat_eq key pair.1) ≡ 1 = ap one_if (eq-eqb key pair.1 same) in
      omega (arith, one, here)
  by_test false e rest =
      let one = count_cons (nat_eq key) pair.1 (keys_in pairs) in
      let more = rest e in
      omega (arith, one, more)

module _ (s : Slab Listing) (index : BTreeMap Ip6 ℕ) (n : NameEachOther s index) where
  few_keys : (ks : List ℕ) → ((k : ℕ) → count_by (nat_eq k) ks ≤ one_if (is_some (get s k))) → length ks ≤ length index.entries
  few_keys ks most =
      let less = no_longer ks (keys_in index.entries) (λ k. by_entry k (get s k) refl (most k)) in
      let same = as_long index.entries in
      omega (arith, less, same)
    where
      by_entry : (k : ℕ) (o : Option Listing) → get s k ≡ o → count_by (nat_eq k) ks ≤ one_if (is_some o)
          → count_by (nat_eq k) ks ≤ count_by (nat_eq k) (keys_in index.entries)
      by_entry k None h m = omega (arith, m)
      by_entry k (Some l) h m = let there = found_in l.who k index.entries (n.named k l h) in omega (arith, m, there)

  due_has_entry : (o : Option Listing) → one_if (is_some (entry_due o)) ≤ one_if (is_some o)
  due_has_entry None = omega arith
  due_has_entry (Some l) = at_most (is_some (entry_due (Some l))) where
    at_most : (b : Bool) → one_if b ≤ 1
    at_most true = omega arith
    at_most false = omega arith

  -- the keys of those that are due are no more than the entries
  pub few_due : (ks : List ℕ) → AreDueOnce s ks → length ks ≤ length index.entries
  few_due ks once = few_keys ks (λ k. let is = once k in let most = due_has_entry (get s k) in omega (arith, is, most))

  -- and fewer, where one isn't due
  fewer_due : (key : ℕ) (before : Option (Millis × Ip6)) (ks : List ℕ) → is_some (get s key) ≡ true → AreDueButOnce s key before ks → is_some before ≡ false
      → length ks < length index.entries
  fewer_due key before ks there once none = let less = few_keys (key ∷ ks) most in omega (arith, less) where
    most : (k : ℕ) → count_by (nat_eq k) (key ∷ ks) ≤ one_if (is_some (get s k))
    most k = by_test (nat_eq k key) refl (once k) where
      by_test : (b : Bool) → nat_eq k key ≡ b → count_by (nat_eq k) ks ≡ one_if (is_some (cond b before (entry_due (get s k))))
          → count_by (nat_eq k) (key ∷ ks) ≤ one_if (is_some (get s k))
      by_test true e is =
          let one = count_cons (nat_eq k) key ks in
          let here : one_if (nat_eq k key) ≡ 1 = ap one_if e in
          let nowhere : one_if (is_some before) ≡ 0 = ap one_if none in
          let full : one_if (is_some (get s k)) ≡ 1 = ap (λ i. one_if (is_some (get s i))) (eqb-true k key e) ∙ ap one_if there in
          omega (arith, one, here, is, nowhere, full)
      by_test false e is =
          let one = count_cons (nat_eq k) key ks in
          let here : one_if (nat_eq k key) ≡ 0 = ap one_if e in
          let most = due_has_entry (get s k) in
          omega (arith, one, here, is, most)

-- there is room for a key that isn't there
pub room_for : (e : Entries) (key : ℕ) (before : Option (Millis × Ip6)) → AreWholeBut e key before → is_some before ≡ false
    → length e.order.items < vec_capacity e.order
room_for e key before w none =
    let fewer = fewer_due e.slab e.index w.names key before e.order.items w.there w.once none in
    let room = w.room in
    omega (arith, fewer, room)
