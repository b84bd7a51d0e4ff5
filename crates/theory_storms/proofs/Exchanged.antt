-- What is undelivered after a delivery.
use Rattle.theory_storms.proofs.Words.{Bool, DeliveryExchanges, Full, Grown, Item, Lab, List, None, Option, Some, [], ap, arith, cond, false, false≢true, is_number, is_some, items_of, legal_deliveries, length, nat_tests, on_wire, refl, slice_get, suc, sum_by, sum_by-append, sum_by-cons, sym, true, undelivered_from, undelivered_items, unwrap_or, was_delivered, wire, zero, ℕ, ◌++◌, ◌+◌, ◌<◌, ◌==◌, ◌||◌, ◌∙◌, ◌∷◌, ◌≡◌, ◌≤◌}
use Rattle.std.proofs.lemmas.List.{length-append}

-- WHAT IS DELIVERED IS THERE

-- another number
other : (j k : ℕ) → k < j → (k == j) ≡ false
other j k h = grind (arith, nat_tests)

not_number : (j : ℕ) (o : Option ℕ) → ((k : ℕ) → o ≡ Some k → k < j) → is_number j o ≡ false
not_number j None h = refl
not_number j (Some k) h = other j k (h k refl)

-- what isn't on the wire was never delivered
never : (lab : Lab) (H : List Full) (j : ℕ) → Grown lab H → length (wire H) ≤ j → was_delivered j H ≡ false
never lab [] j g h = refl
never lab (r ∷ H) j g h =
    let whole = length-append (wire H) (items_of r) in
    let before : length (wire H) ≤ j = omega (arith, h, whole) in
    let first : is_number j r.delivered ≡ false = not_number j r.delivered
    (λ k e. let within = on_wire lab H r k (legal_deliveries lab H r k g e) in omega (arith, within, before)) in
    ap (λ (b : Bool). b || was_delivered j H) first ∙ never lab H j g.1 before

-- LISTS OF ENTRIES

joined : (G : List Full) (i : ℕ) (xs ys : List Item) → undelivered_from G i (xs ++ ys) ≡ undelivered_from G i xs ++ undelivered_from G (i + length xs) ys
joined G i [] ys = let same : i ≡ i + 0 = omega arith in ap (λ (n : ℕ). undelivered_from G n ys) same
joined G i (x ∷ xs) ys =
    let moved : i + 1 + length xs ≡ i + suc (length xs) = omega arith in
    let rest = joined G (i + 1) xs ys ∙ ap (λ (n : ℕ). undelivered_from G (i + 1) xs ++ undelivered_from G n ys) moved in
    by (was_delivered i G) rest
  where
    by : (b : Bool) → undelivered_from G (i + 1) (xs ++ ys) ≡ undelivered_from G (i + 1) xs ++ undelivered_from G (i + suc (length xs)) ys
        → cond b (undelivered_from G (i + 1) (xs ++ ys)) (x ∷ undelivered_from G (i + 1) (xs ++ ys)) ≡ cond b (undelivered_from G (i + 1) xs)
        (x ∷ undelivered_from G (i + 1) xs) ++ undelivered_from G (i + suc (length xs)) ys
    by true e = e
    by false e = ap (λ (zs : List Item). x ∷ zs) e

all_open : (G : List Full) (i : ℕ) (ys : List Item) → ((j : ℕ) → i ≤ j → was_delivered j G ≡ false) → undelivered_from G i ys ≡ ys
all_open G i [] h = refl
all_open G i (y ∷ ys) h =
    let rest = all_open G (i + 1) ys (λ j le. h j (omega (arith, le))) in
    ap (λ (b : Bool). cond b (undelivered_from G (i + 1) ys) (y ∷ undelivered_from G (i + 1) ys)) (h i (omega arith)) ∙ ap (λ (zs : List Item). y ∷ zs) rest

-- behind the delivered one nothing changes
behind : (H : List Full) (r : Full) (k i : ℕ) (xs : List Item) → r.delivered ≡ Some k → k < i → undelivered_from (r ∷ H) i xs ≡ undelivered_from H i xs
behind H r k i [] is h = refl
behind H r k i (x ∷ xs) is h =
    let first : is_number i r.delivered ≡ false = ap (is_number i) is ∙ other i k h in
    let rest = behind H r k (i + 1) xs is (omega (arith, h)) in
    ap (λ (b : Bool). cond (b || was_delivered i H) (undelivered_from (r ∷ H) (i + 1) xs) (x ∷ undelivered_from (r ∷ H) (i + 1) xs)) first
    ∙ ap (λ (zs : List Item). cond (was_delivered i H) zs (x ∷ zs)) rest

-- a record that delivers an entry, which none before did
record Delivered : Type 0 where
  past : List Full
  full : Full
  number : ℕ
  item : Item
  is : full.delivered ≡ Some number
  fresh : was_delivered number past ≡ false

-- it goes
taken : (d : Delivered) (w : Item → ℕ) (i n : ℕ) (xs : List Item) → slice_get xs n ≡ Some d.item → d.number ≡ i + n
    → sum_by w (undelivered_from (d.full ∷ d.past) i xs) + w d.item ≡ sum_by w (undelivered_from d.past i xs)
taken d w i n [] at e = absurd (false≢true (ap (λ (o : Option Item). is_some o) at))
taken d w i zero (y ∷ xs) at e =
    let here : d.number ≡ i = omega (arith, e) in
    let one : y ≡ d.item = ap (λ (o : Option Item). unwrap_or o y) at in
    let now : is_number i d.full.delivered ≡ true = ap (is_number i) d.is ∙ same d.number i here in
    let before : was_delivered i d.past ≡ false = ap (λ (m : ℕ). was_delivered m d.past) (sym here) ∙ d.fresh in
    let rest = behind d.past d.full d.number (i + 1) xs d.is (omega (arith, here)) in
    let left : undelivered_from (d.full ∷ d.past) i (y ∷ xs) ≡ undelivered_from d.past (i + 1) xs =
    ap (λ (b : Bool). cond (b || was_delivered i d.past) (undelivered_from (d.full ∷ d.past) (i + 1) xs) (y ∷ undelivered_from (d.full ∷ d.past) (i + 1) xs))
    now ∙ rest in
    let right : undelivered_from d.past i (y ∷ xs) ≡ y ∷ undelivered_from d.past (i + 1) xs = ap
    (λ (b : Bool). cond b (undelivered_from d.past (i + 1) xs) (y ∷ undelivered_from d.past (i + 1) xs)) before in
    let a = ap (sum_by w) left in
    let b = ap (sum_by w) right in
    let c = sum_by-cons w y (undelivered_from d.past (i + 1) xs) in
    let f = ap w one in
    omega (arith, a, b, c, f)
  where
    same : (m j : ℕ) → m ≡ j → (m == j) ≡ true
    same m j g = grind (arith, nat_tests)
taken d w i (suc n) (y ∷ xs) at e =
    let first : is_number i d.full.delivered ≡ false = ap (is_number i) d.is ∙ later i d.number (omega (arith, e)) in
    let rest = taken d w (i + 1) n xs at (omega (arith, e)) in
    let same : undelivered_from (d.full ∷ d.past) i (y ∷ xs) ≡ cond (was_delivered i d.past) (undelivered_from (d.full ∷ d.past) (i + 1) xs)
    (y ∷ undelivered_from (d.full ∷ d.past) (i + 1) xs) =
    ap (λ (b : Bool). cond (b || was_delivered i d.past) (undelivered_from (d.full ∷ d.past) (i + 1) xs) (y ∷ undelivered_from (d.full ∷ d.past) (i + 1) xs))
    first in
    ap (λ (zs : List Item). sum_by w zs + w d.item) same ∙ by (was_delivered i d.past) rest
  where
    later : (j m : ℕ) → j < m → (m == j) ≡ false
    later j m g = grind (arith, nat_tests)

    by : (b : Bool) → sum_by w (undelivered_from (d.full ∷ d.past) (i + 1) xs) + w d.item ≡ sum_by w (undelivered_from d.past (i + 1) xs)
        → sum_by w (cond b (undelivered_from (d.full ∷ d.past) (i + 1) xs) (y ∷ undelivered_from (d.full ∷ d.past) (i + 1) xs)) + w d.item ≡ sum_by w
        (cond b (undelivered_from d.past (i + 1) xs) (y ∷ undelivered_from d.past (i + 1) xs))
    by true h = h
    by false h =
        let a = sum_by-cons w y (undelivered_from (d.full ∷ d.past) (i + 1) xs) in
        let b = sum_by-cons w y (undelivered_from d.past (i + 1) xs) in
        omega (arith, a, b, h)

pub exchanges : DeliveryExchanges
exchanges lab H r k x g is fresh at w =
    let G : List Full = r ∷ H in
    let whole = length-append (wire H) (items_of r) in
    let split : undelivered_items G ≡ undelivered_from G 0 (wire H) ++ undelivered_from G (0 + length (wire H)) (items_of r) = joined G 0 (wire H)
    (items_of r) in
    let fresh_ones : (j : ℕ) → 0 + length (wire H) ≤ j → was_delivered j G ≡ false = λ j le.
    ap (λ (b : Bool). b || was_delivered j H) (not_number j r.delivered
    (λ m e. let within = on_wire lab H r m (legal_deliveries lab H r m g e) in omega (arith, within, le))) ∙ never lab H j g.1 (omega (arith, le)) in
    let new : undelivered_from G (0 + length (wire H)) (items_of r) ≡ items_of r = all_open G (0 + length (wire H)) (items_of r) fresh_ones in
    let old = taken (record { past = H; full = r; number = k; item = x; is = is; fresh = fresh }) w 0 k (wire H) at (omega arith) in
    let sums = ap (sum_by w) (split ∙ ap (λ (zs : List Item). undelivered_from G 0 (wire H) ++ zs) new)
    ∙ sum_by-append w (undelivered_from G 0 (wire H)) (items_of r) in
    omega (arith, old, sums)
