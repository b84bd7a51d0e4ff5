-- What one more record changes of the counts.
use Rattle.td_explain.proofs.Words.{AreBelow, Bool, Counts, List, None, Option, Said, Some, [], answered_said, ap, append-nil, arith, asked_said, count_by, count_by-le-length, count_more, draws_datagram, eq-eqb, false, is_among, length, licenser, licensers, ne_eqb, not, one_if, refl, slice_set, subst, suc, sym, true, waiting, waiting_places_from, with_place, without_place, zero, zero-add, ℕ, ◌&&◌, ◌++◌, ◌+◌, ◌<◌, ◌==◌, ◌^◌, ◌||◌, ◌∙◌, ◌∷◌, ◌≡◌, ◌≤◌}

-- ---- counts

made : (packets asked answered skipped dropped unlicensed : ℕ) → Counts
made packets asked answered skipped dropped unlicensed =
    record { packets = packets; asked = asked; answered = answered; skipped = skipped; dropped = dropped; unlicensed = unlicensed }

-- counts that are the same one by one
pub record AreSame (a b : Counts) : Type 0 where
  pub packets : a.packets ≡ b.packets
  pub asked : a.asked ≡ b.asked
  pub answered : a.answered ≡ b.answered
  pub skipped : a.skipped ≡ b.skipped
  pub dropped : a.dropped ≡ b.dropped
  pub unlicensed : a.unlicensed ≡ b.unlicensed

pub same_counts : (a b : Counts) → AreSame a b → a ≡ b
unfolding made
same_counts a b same =
    let packets = same.packets in
    let asked = same.asked in
    let answered = same.answered in
    let skipped = same.skipped in
    let dropped = same.dropped in
    let unlicensed = same.unlicensed in
    let e : made a.packets a.asked a.answered a.skipped a.dropped a.unlicensed ≡ made b.packets b.asked b.answered b.skipped b.dropped b.unlicensed = cc in
    e

-- one more of what passes a test
abbrev pub Grows : ℕ → ℕ → Bool → Type 0
Grows old new counted = old + 1 < 2 ^ 64 → new ≡ old + one_if counted

pub grown : {X : Type 0} (p : X → Bool) (xs : List X) (x : X) (old new : ℕ) (b : Bool) → length xs + 1 < 2 ^ 64 → old ≡ count_by p xs → b ≡ p x
    → Grows old new b → new ≡ count_by p (xs ++ x ∷ [])
grown p xs x old new b small is test grows =
    let most = count_by-le-length p xs in
    grows (omega (arith, is, most, small)) ∙ ap (λ (n : ℕ). n + one_if b) is ∙ ap (λ (t : Bool). count_by p xs + one_if t) test ∙ sym (count_more p xs x)

-- ---- places that wait

abbrev to_list : Option ℕ → List ℕ
to_list None = []
to_list (Some place) = place ∷ []

with_place-append : (o : Option ℕ) (ps qs : List ℕ) → with_place o ps ++ qs ≡ with_place o (ps ++ qs)
with_place-append None ps qs = refl
with_place-append (Some p) ps qs = refl

with_none : (o : Option ℕ) → with_place o [] ≡ to_list o
with_none None = refl
with_none (Some p) = refl

pub licensers_more : (xs : List Said) (x : Said) → licensers (xs ++ x ∷ []) ≡ licensers xs ++ to_list (licenser (answered_said x))
licensers_more [] x = with_none (licenser (answered_said x))
licensers_more (y ∷ ys) x =
    ap (with_place (licenser (answered_said y))) (licensers_more ys x)
    ∙ sym (with_place-append (licenser (answered_said y)) (licensers ys) (to_list (licenser (answered_said x))))

-- a list of places of which each is less than a number
below_none : (n : ℕ) (ps : List ℕ) → AreBelow n ps → is_among n ps ≡ false
below_none n [] each = refl
below_none n (p ∷ ps) each =
    let differ : (p == n) ≡ false = ne_eqb p n (λ (e : p ≡ n). omega (arith, e, each.0)) in
    ap (λ (b : Bool). b || is_among n ps) differ ∙ below_none n ps each.1

all_below : (n : ℕ) (ps qs : List ℕ) → AreBelow n ps → AreBelow n qs → AreBelow n (ps ++ qs)
all_below n [] qs each more = more
all_below n (p ∷ ps) qs each more = (each.0, all_below n ps qs each.1 more)

pub below_later : (n m : ℕ) (ps : List ℕ) → n ≤ m → AreBelow n ps → AreBelow m ps
below_later n m [] le each = tt
below_later n m (p ∷ ps) le each = (omega (arith, each.0, le), below_later n m ps le each.1)

among_more : (k : ℕ) (ps : List ℕ) (p : ℕ) → is_among k (ps ++ p ∷ []) ≡ (is_among k ps || (p == k))
among_more k [] p = or_false (p == k)
  where
    or_false : (b : Bool) → (b || false) ≡ b
    or_false true = refl
    or_false false = refl
among_more k (q ∷ qs) p = ap (λ (b : Bool). (q == k) || b) (among_more k qs p) ∙ sym (or_assoc (q == k) (is_among k qs) (p == k))
  where
    or_assoc : (a b c : Bool) → ((a || b) || c) ≡ (a || (b || c))
    or_assoc true b c = refl
    or_assoc false b c = refl

among_other : (k : ℕ) (ps : List ℕ) (p : ℕ) → (p == k) ≡ false → is_among k (ps ++ p ∷ []) ≡ is_among k ps
among_other k ps p differ = among_more k ps p ∙ ap (λ (b : Bool). is_among k ps || b) differ ∙ or_false (is_among k ps)
  where
    or_false : (b : Bool) → (b || false) ≡ b
    or_false true = refl
    or_false false = refl

among_itself : (k : ℕ) (ps : List ℕ) → is_among k (ps ++ k ∷ []) ≡ true
among_itself k ps = among_more k ps k ∙ ap (λ (b : Bool). is_among k ps || b) (eq-eqb k k refl) ∙ or_true (is_among k ps)
  where
    or_true : (b : Bool) → (b || true) ≡ true
    or_true true = refl
    or_true false = refl

-- a place before the first one is none of these
past : (used : List ℕ) (p k : ℕ) (xs : List Said) → p < k → waiting_places_from (used ++ p ∷ []) k xs ≡ waiting_places_from used k xs
past used p k [] less = refl
past used p k (x ∷ xs) less =
    let head = among_other k used p (ne_eqb p k (λ (e : p ≡ k). omega (arith, e, less))) in
    ap (λ (b : Bool). (draws_datagram (asked_said x) && not b) ∷ waiting_places_from (used ++ p ∷ []) (k + 1) xs) head
    ∙ ap (λ (waits : List Bool). (draws_datagram (asked_said x) && not (is_among k used)) ∷ waits) (past used p (k + 1) xs (omega (arith, less)))

no_wait : (b : Bool) → (b && not true) ≡ false
no_wait true = refl
no_wait false = refl

-- one more place is used
pub used_more : (used : List ℕ) (k d : ℕ) (xs : List Said) → waiting_places_from (used ++ (k + d) ∷ []) k xs ≡ slice_set (waiting_places_from used k xs) d false
used_more used k d [] = refl
used_more used k zero (x ∷ xs) =
    let same : k + zero ≡ k = omega arith in
    subst (λ (p : ℕ). waiting_places_from (used ++ p ∷ []) k (x ∷ xs) ≡ false ∷ waiting_places_from used (k + 1) xs) (sym same)
    (ap (λ (b : Bool). (draws_datagram (asked_said x) && not b) ∷ waiting_places_from (used ++ k ∷ []) (k + 1) xs) (among_itself k used)
    ∙ ap (λ (b : Bool). b ∷ waiting_places_from (used ++ k ∷ []) (k + 1) xs) (no_wait (draws_datagram (asked_said x)))
    ∙ ap (λ (waits : List Bool). false ∷ waits) (past used k (k + 1) xs (omega arith)))
used_more used k (suc d) (x ∷ xs) =
    let place : ℕ = k + suc d in
    let head = among_other k used place (ne_eqb place k (λ (e : place ≡ k). omega (arith, e))) in
    let next : place ≡ (k + 1) + d = omega arith in
    let tail = subst (λ (p : ℕ). waiting_places_from (used ++ p ∷ []) (k + 1) xs ≡ slice_set (waiting_places_from used (k + 1) xs) d false) (sym next)
    (used_more used (k + 1) d xs) in
    ap (λ (b : Bool). (draws_datagram (asked_said x) && not b) ∷ waiting_places_from (used ++ place ∷ []) (k + 1) xs) head
    ∙ ap (λ (waits : List Bool). (draws_datagram (asked_said x) && not (is_among k used)) ∷ waits) tail

waiting_more : (used : List ℕ) (k : ℕ) (xs : List Said) (x : Said)
    → waiting_places_from used k (xs ++ x ∷ []) ≡ waiting_places_from used k xs ++ (draws_datagram (asked_said x) && not (is_among (k + length xs) used)) ∷ []
waiting_more used k [] x = let same : k ≡ k + zero = omega arith in ap (λ (n : ℕ). (draws_datagram (asked_said x) && not (is_among n used)) ∷ []) same
waiting_more used k (y ∷ ys) x =
    let next : (k + 1) + length ys ≡ k + suc (length ys) = omega arith in
    ap (λ (waits : List Bool). (draws_datagram (asked_said y) && not (is_among k used)) ∷ waits)
    (waiting_more used (k + 1) ys x ∙ ap (λ (n : ℕ). waiting_places_from used (k + 1) ys ++ (draws_datagram (asked_said x) && not (is_among n used)) ∷ []) next)

used_place : (used : List ℕ) (xs : List Said) (o : Option ℕ) → waiting_places_from (used ++ to_list o) 0 xs ≡ without_place o (waiting_places_from used 0 xs)
used_place used xs None = ap (λ (ps : List ℕ). waiting_places_from ps 0 xs) (append-nil used)
used_place used xs (Some p) = subst (λ (q : ℕ). waiting_places_from (used ++ q ∷ []) 0 xs ≡ slice_set (waiting_places_from used 0 xs) p false) (zero-add p)
    (used_more used 0 p xs)

and_true : (b : Bool) → (b && not false) ≡ b
and_true true = refl
and_true false = refl

-- all licensers are earlier, and so is the next one
pub earlier_more : (xs : List Said) (x : Said) → AreBelow (length xs) (licensers xs) → AreBelow (length xs) (licensers (x ∷ []))
    → AreBelow (length xs) (licensers (xs ++ x ∷ []))
earlier_more xs x each next =
    subst (AreBelow (length xs)) (sym (licensers_more xs x)) (all_below (length xs) (licensers xs) (to_list (licenser (answered_said x))) each
    (subst (AreBelow (length xs)) (with_none (licenser (answered_said x))) next))

pub waits_more : (xs : List Said) (x : Said) → AreBelow (length xs) (licensers xs) → AreBelow (length xs) (licensers (x ∷ []))
    → waiting (xs ++ x ∷ []) ≡ without_place (licenser (answered_said x)) (waiting xs) ++ draws_datagram (asked_said x) ∷ []
waits_more xs x each next =
    let used = licensers (xs ++ x ∷ []) in
    let o = licenser (answered_said x) in
    let none : is_among (0 + length xs) used ≡ false =
    subst (λ (n : ℕ). is_among n used ≡ false) (sym (zero-add (length xs))) (below_none (length xs) used (earlier_more xs x each next)) in
    waiting_more used 0 xs x ∙ ap (λ (b : Bool). waiting_places_from used 0 xs ++ (draws_datagram (asked_said x) && not b) ∷ []) none
    ∙ ap (λ (b : Bool). waiting_places_from used 0 xs ++ b ∷ []) (and_true (draws_datagram (asked_said x)))
    ∙ ap (λ (ps : List ℕ). waiting_places_from ps 0 xs ++ draws_datagram (asked_said x) ∷ []) (licensers_more xs x)
    ∙ ap (λ (waits : List Bool). waits ++ draws_datagram (asked_said x) ∷ []) (used_place (licensers xs) xs o)
