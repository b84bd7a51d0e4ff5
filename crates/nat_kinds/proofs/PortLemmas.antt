-- Keys and ports: what is the same of the latest of each key and of all, and how many ports are held.
use Rattle.nat_kinds.proofs.Words.{Agree, AgreesWith, AllByRecursion, Bool, Cone, Ep, FIRST_PORT, InRange, IsDistinct, IsDistinct-cons, List, MAPPINGS_MAX, NatKind, None, Outward, Port, Restricted, Some, Sound, Symmetric, [], all_map, and_from, and_parts, ap, arith, both_tests, cond, cond-false, eq-eqb, eqb, eqb-false, eqb-true, false, filter, find, has_key, is_used, latest, le-length_from_below, length, length-le_from_distinct_below, list_any, map, nat_eq_equiv, ne_eqb, not, not-true, or-true, or_cases, refl, same_ep, same_ep-self, same_ep-true, same_ep_equiv, subst, sym, true, ℕ, ⊎_elim, ◌&&◌, ◌+◌, ◌-◌, ◌<◌, ◌==◌, ◌||◌, ◌∙◌, ◌∷◌, ◌≡◌, ◌≤◌}
use Rattle.std.specs.Option.{is_some}
use Rattle.nat_kinds.proofs.ListLemmas.{all_filter, all_two, all_any, all_passed, any_found, found_passes, all_found, none_passes, none_found, all_mapped, distinct_none, distinct_filter, any_all, length-mapped}

-- THE LATEST OF EACH KEY

pub all_latest : (P : Outward → Type 0) (kind : NatKind) (outs : List Outward) → AllByRecursion P outs → AllByRecursion P (latest kind outs)
all_latest P kind [] a = tt
all_latest P kind (e ∷ outs) a = (a.0, all_filter P _ (latest kind outs) (all_latest P kind outs a.1))

-- q is the same of entries of one key
abbrev pub Respects : NatKind → (Outward → Bool) → List Outward → Type 0
Respects kind q [] = Unit {0}
Respects kind q (e ∷ outs) = AllByRecursion (λ o. has_key kind e.inside e.dst o ≡ true → q o ≡ q e) outs × Respects kind q outs

find_others : (kind : NatKind) (q : Outward → Bool) (e : Outward) (outs : List Outward) → q e ≡ false
    → AllByRecursion (λ o. has_key kind e.inside e.dst o ≡ true → q o ≡ q e) outs
    → find q (filter (λ o. not (has_key kind e.inside e.dst o)) outs) ≡ find q outs
find_others kind q e [] n a = refl
find_others kind q e (o ∷ outs) n a = by_case (has_key kind e.inside e.dst o) refl (find_others kind q e outs n a.1)
  where
    by_case : (b : Bool) → has_key kind e.inside e.dst o ≡ b → find q (filter (λ o. not (has_key kind e.inside e.dst o)) outs) ≡ find q outs
        → find q (cond (not b) (o ∷ filter (λ o. not (has_key kind e.inside e.dst o)) outs)
        (filter (λ o. not (has_key kind e.inside e.dst o)) outs)) ≡ cond (q o) (Some o) (find q outs)
    by_case true k h = let f : q o ≡ false = a.0 k ∙ n in h ∙ sym (cond-false (q o) (Some o) (find q outs) f)
    by_case false k h = ap (λ r. cond (q o) (Some o) r) h

-- the first entry that passes is the latest of its key
pub find_latest : (kind : NatKind) (q : Outward → Bool) (outs : List Outward) → Respects kind q outs → find q (latest kind outs) ≡ find q outs
find_latest kind q [] r = refl
find_latest kind q (e ∷ outs) r = by_case (q e) refl (find_latest kind q outs r.1)
  where
    by_case : (b : Bool) → q e ≡ b → find q (latest kind outs) ≡ find q outs → cond b (Some e) (find q (filter (λ o. not (has_key kind e.inside e.dst o)) (latest kind outs))) ≡ cond b (Some e) (find q outs)
    by_case true n h = refl
    by_case false n h = find_others kind q e (latest kind outs) n (all_latest _ kind outs r.0) ∙ h

-- KEYS

pub key_symm : (kind : NatKind) (a b : Outward) → has_key kind a.inside a.dst b ≡ has_key kind b.inside b.dst a
key_symm Symmetric a b = ap (λ t. t && same_ep b.dst a.dst) (same_ep_equiv.symm b.inside a.inside) ∙ ap (λ t. same_ep a.inside b.inside && t) (same_ep_equiv.symm b.dst a.dst)
key_symm Cone a b = same_ep_equiv.symm b.inside a.inside
key_symm Restricted a b = same_ep_equiv.symm b.inside a.inside
key_symm Port a b = same_ep_equiv.symm b.inside a.inside

-- what has a's key has any key that a has, or neither does
pub key_alike : (kind : NatKind) (inside dst : Ep) (a o : Outward) → has_key kind inside dst a ≡ true → has_key kind inside dst o ≡ has_key kind a.inside a.dst o
key_alike Symmetric inside dst a o h =
    let both = and_parts _ _ h in
    let x : a.inside ≡ inside = same_ep-true a.inside inside both.0 in
    let y : a.dst ≡ dst = same_ep-true a.dst dst both.1 in
    cc
key_alike Cone inside dst a o h = let x : a.inside ≡ inside = same_ep-true a.inside inside h in cc
key_alike Restricted inside dst a o h = let x : a.inside ≡ inside = same_ep-true a.inside inside h in cc
key_alike Port inside dst a o h = let x : a.inside ≡ inside = same_ep-true a.inside inside h in cc

-- one key and another of the same entry pass the same
pub respects_key : (kind : NatKind) (inside dst : Ep) (outs : List Outward) → Respects kind (has_key kind inside dst) outs
respects_key kind inside dst [] = tt
respects_key kind inside dst (e ∷ outs) = (all_any _ outs (λ o h. same_key kind inside dst e o h), respects_key kind inside dst outs)
  where
    same_key : (kind : NatKind) (inside dst : Ep) (e o : Outward) → has_key kind e.inside e.dst o ≡ true → has_key kind inside dst o ≡ has_key kind inside dst e
    same_key Symmetric inside dst e o h =
        let both = and_parts _ _ h in
        let x : o.inside ≡ e.inside = same_ep-true o.inside e.inside both.0 in
        let y : o.dst ≡ e.dst = same_ep-true o.dst e.dst both.1 in
        cc
    same_key Cone inside dst e o h = let x : o.inside ≡ e.inside = same_ep-true o.inside e.inside h in cc
    same_key Restricted inside dst e o h = let x : o.inside ≡ e.inside = same_ep-true o.inside e.inside h in cc
    same_key Port inside dst e o h = let x : o.inside ≡ e.inside = same_ep-true o.inside e.inside h in cc

-- so a port does
pub respects_port : (kind : NatKind) (port : ℕ) (outs : List Outward) → Agree kind outs → Respects kind (λ e. port == e.port) outs
respects_port kind port [] a = tt
respects_port kind port (e ∷ outs) a = (
  all_map (λ o. has_key kind e.inside e.dst o ≡ (e.port == o.port)) _ outs (λ o h k. let f : e.port
      ≡ o.port = eqb-true e.port o.port (sym h ∙ k) in ap (λ p. port == p) (sym f)) a.0,
  respects_port kind port outs a.1,
)

-- a filter keeps what is sound
pub Agree-filter : (kind : NatKind) (p : Outward → Bool) (outs : List Outward) → Agree kind outs → Agree kind (filter p outs)
Agree-filter kind p [] a = tt
Agree-filter kind p (e ∷ outs) a = elim (p e) as (λ b. Agree kind (cond b (e ∷ filter p outs) (filter p outs))) [ true ↦ (all_filter _ p outs a.0, Agree-filter kind p outs a.1) | false ↦ Agree-filter kind p outs a.1 ]

pub Sound-filter : (kind : NatKind) (p : Outward → Bool) (outs : List Outward) → Sound kind outs → Sound kind (filter p outs)
Sound-filter kind p outs s = record { agree = Agree-filter kind p outs s.agree; in_range = all_filter _ p outs s.in_range }

pub has_itself : (kind : NatKind) (e : Outward) → has_key kind e.inside e.dst e ≡ true
has_itself Symmetric e = and_from _ _ (same_ep-self e.inside) (same_ep-self e.dst)
has_itself Cone e = same_ep-self e.inside
has_itself Restricted e = same_ep-self e.inside
has_itself Port e = same_ep-self e.inside

-- the entry that a search found agrees with them all
pub AgreesWith-found : (kind : NatKind) (q : Outward → Bool) (outs : List Outward) (f : Outward) → Agree kind outs → find q outs ≡ Some f → AgreesWith kind f outs
AgreesWith-found kind q [] f a h = tt
AgreesWith-found kind q (e ∷ outs) f a h = by_case (q e) h (λ i. AgreesWith-found kind q outs f a.1 i)
  where
    itself : has_key kind e.inside e.dst e ≡ (e.port == e.port)
    itself = has_itself kind e ∙ sym (eq-eqb e.port e.port refl)

    by_case : (b : Bool) → cond b (Some e) (find q outs) ≡ Some f → (find q outs ≡ Some f → AgreesWith kind f outs) → AgreesWith kind f (e ∷ outs)
    by_case true i k = let g : e ≡ f = cc in subst (λ (x : Outward). AgreesWith kind x (e ∷ outs)) g (itself, a.0)
    by_case false i k = (key_symm kind f e ∙ all_found _ q outs f a.0 i ∙ nat_eq_equiv.symm e.port f.port, k i)

-- A NEW ENTRY

-- it takes the port of its key
pub agree_again : (kind : NatKind) (e : Outward) (outs : List Outward) (f : Outward) → Agree kind outs → find (has_key kind e.inside e.dst) outs ≡ Some f → e.port ≡ f.port → AgreesWith kind e outs
agree_again kind e outs f a h p =
    let k : has_key kind e.inside e.dst f ≡ true = found_passes _ outs f h in
    all_map (λ o. has_key kind f.inside f.dst o ≡ (f.port == o.port)) _ outs (λ o g. key_alike kind e.inside e.dst f o k ∙ g ∙ ap (λ n. n == o.port) (sym p)) (AgreesWith-found kind _ outs f a h)

-- or a port that none has, where none has its key
pub agree_new : (kind : NatKind) (e : Outward) (outs : List Outward) → find (has_key kind e.inside e.dst) outs ≡ None → is_used outs e.port ≡ false → AgreesWith kind e outs
agree_new kind e outs h u = all_two (λ o. has_key kind e.inside e.dst o ≡ false) (λ o. (e.port == o.port) ≡ false) _ outs (λ o x y. x ∙ sym y) (none_found _ outs h) (none_passes _ outs u)

-- HOW MANY PORTS ARE USED

pub used_latest : (kind : NatKind) (outs : List Outward) (port : ℕ) → Agree kind outs → is_used (latest kind outs) port ≡ is_used outs port
used_latest kind outs port a = any_found _ (latest kind outs) ∙ ap is_some (find_latest kind _ outs (respects_port kind port outs a)) ∙ sym (any_found _ outs)

abbrev pub slot : Outward → ℕ
slot e = e.port - FIRST_PORT

apart : (e o : Outward) → FIRST_PORT ≤ e.port → FIRST_PORT ≤ o.port → (e.port == o.port) ≡ false → eqb (slot e) (slot o) ≡ false
apart e o h k n = ne_eqb _ _ (λ s. eqb-false e.port o.port n (omega arith))

pub distinct_slots : (kind : NatKind) (outs : List Outward) → Agree kind outs → InRange outs → IsDistinct eqb (map slot (latest kind outs))
distinct_slots kind [] a r = distinct_none eqb
distinct_slots kind (e ∷ outs) a r =
    let others : List Outward = filter (λ o. not (has_key kind e.inside e.dst o)) (latest kind outs) in
    let other_key : AllByRecursion (λ o. not (has_key kind e.inside e.dst o) ≡ true) others = all_passed _ (latest kind outs) in
    let other_port : AllByRecursion (λ o. (e.port == o.port) ≡ false) others =
    all_two _ (λ o. has_key kind e.inside e.dst o ≡ (e.port == o.port)) _ others (λ o n k. sym k ∙ not-true _ n) other_key (all_filter _ _ (latest kind outs) (all_latest _ kind outs a.0)) in
    let ranged : InRange others = all_filter _ _ (latest kind outs) (all_latest _ kind outs r.1) in
    IsDistinct-cons eqb (slot e) (map slot others) (all_mapped slot _ others
    (all_two _ (λ o. (FIRST_PORT ≤ o.port) × (o.port < FIRST_PORT + MAPPINGS_MAX)) _ others (λ o n g. apart e o r.0.0 g.0 n) other_port
    ranged)) (distinct_filter eqb slot _ (latest kind outs) (distinct_slots kind outs a.1 r.1))

pub used_slot : (live : List Outward) (q : ℕ) → InRange live → list_any (eqb q) (map slot live) ≡ is_used live (q + FIRST_PORT)
used_slot [] q r = refl
used_slot (e ∷ live) q r = ap (λ b. b || list_any (eqb q) (map slot live)) (one e r.0.0) ∙ ap (λ b. ((q + FIRST_PORT) == e.port) || b) (used_slot live q r.1)
  where
    one : (e : Outward) → FIRST_PORT ≤ e.port → eqb q (slot e) ≡ ((q + FIRST_PORT) == e.port)
    one e h = both_tests _ _ (λ t. let g : q ≡ e.port - FIRST_PORT = eqb-true q _ t in eq-eqb _ _ (omega arith)) (λ t. let g : q + FIRST_PORT ≡ e.port = eqb-true (q + FIRST_PORT) e.port t in eq-eqb _ _ (omega arith))

pub used_at_slot : (live : List Outward) (q : ℕ) → is_used live (q + FIRST_PORT) ≡ true → list_any (eqb q) (map slot live) ≡ true
used_at_slot [] q h = h
used_at_slot (e ∷ live) q h = ⊎_elim (λ t. let k : q + FIRST_PORT ≡ e.port = eqb-true (q + FIRST_PORT) e.port t in
    let g : eqb q (slot e) ≡ true = eq-eqb q (slot e) (omega arith) in
    ap (λ b. b || list_any (eqb q) (map slot live)) g) (λ t. ap (λ b. eqb q (slot e) || b) (used_at_slot live q t)
    ∙ or-true (eqb q (slot e))) (or_cases ((q + FIRST_PORT) == e.port) (is_used live (q + FIRST_PORT)) h)

below : (live : List Outward) (q : ℕ) → InRange live → list_any (eqb q) (map slot live) ≡ true → q < MAPPINGS_MAX
below live q r h = any_all (λ e. (q + FIRST_PORT) == e.port) _ (q < MAPPINGS_MAX) live (λ e t g. let k : q + FIRST_PORT ≡ e.port = eqb-true (q + FIRST_PORT) e.port t in omega (arith, g.1)) r (sym (used_slot live q r) ∙ h)

-- there are no more mappings than ports
pub count_most : (kind : NatKind) (outs : List Outward) → Sound kind outs → length (latest kind outs) ≤ MAPPINGS_MAX
count_most kind outs s =
    let live : List Outward = latest kind outs in
    let r : InRange live = all_latest _ kind outs s.in_range in
    let most : length (map slot live) ≤ MAPPINGS_MAX = length-le_from_distinct_below (map slot live) MAPPINGS_MAX (distinct_slots kind outs s.agree s.in_range) (λ q k. below live q r k) in
    omega (arith, length-mapped slot live)

-- each of the ports is used, so there are as many mappings
pub count_full : (kind : NatKind) (outs : List Outward) → Sound kind outs → ((q : ℕ) → FIRST_PORT ≤ q → q < FIRST_PORT + MAPPINGS_MAX → is_used outs q ≡ true) → length (latest kind outs) ≡ MAPPINGS_MAX
count_full kind outs s h =
    let live : List Outward = latest kind outs in
    let r : InRange live = all_latest _ kind outs s.in_range in
    let most : length live ≤ MAPPINGS_MAX = count_most kind outs s in
    let least : MAPPINGS_MAX ≤ length (map slot live) = le-length_from_below (map slot live) MAPPINGS_MAX (λ q k. used_slot live q r ∙ used_latest kind outs (q + FIRST_PORT) s.agree ∙ h (q + FIRST_PORT) (omega arith) (omega arith)) in
    omega (arith, length-mapped slot live)

-- one isn't, so there are fewer
pub count_free : (kind : NatKind) (outs : List Outward) (p : ℕ) → Sound kind outs → FIRST_PORT ≤ p → p < FIRST_PORT + MAPPINGS_MAX → is_used outs p ≡ false → length (latest kind outs) < MAPPINGS_MAX
count_free kind outs p s low high f =
    let live : List Outward = latest kind outs in
    let r : InRange live = all_latest _ kind outs s.in_range in
    let n : list_any (eqb (p - FIRST_PORT)) (map slot live) ≡ false = used_slot live (p - FIRST_PORT) r ∙ ap (is_used live) (back p low) ∙ used_latest kind outs p s.agree ∙ f in
    let most : length ((p - FIRST_PORT) ∷ map slot live) ≤ MAPPINGS_MAX =
    length-le_from_distinct_below ((p - FIRST_PORT) ∷ map slot live) MAPPINGS_MAX
    (IsDistinct-cons eqb (p - FIRST_PORT) (map slot live) (none_passes _ _ n) (distinct_slots kind outs s.agree s.in_range))
    (λ q k. ⊎_elim (λ e. let g : q ≡ p - FIRST_PORT = eqb-true q _ e in omega arith) (λ i. below live q r i) (or_cases _ _ k)) in
    omega (arith, length-mapped slot live)
  where
    back : (p : ℕ) → FIRST_PORT ≤ p → p - FIRST_PORT + FIRST_PORT ≡ p
    back p l = omega arith
