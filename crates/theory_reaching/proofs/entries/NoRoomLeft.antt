-- Where there is no room for two peers, there is none for the second one once the first is listed.
use Rattle.theory_reaching.proofs.Words.{AllByRecursion, Bool, Ip6, IsDistinct, IsDistinct-head, IsDistinct-tail, LISTED_MS, List, Mention, None, Option, PEERS_MAX, Some, [], ap, arith, cond, false, false≢true, filter, find, has_room, has_room_for_both, is_listed, is_peer, is_recent_touch, is_touch_of, is_younger, length, listed, nat_le, nat_lt, nat_tests, not, or_parts, others_stay, refl, same_ip6, same_ip6-self, same_ip6-true, subst, suc, sym, touched, touched_once, true, with_peer, young_now, ℕ, ◌+◌, ◌||◌, ◌∙◌, ◌∷◌, ◌≡◌, ◌≤◌}

-- WHO WAS TOUCHED

-- HOW MANY PASS A TEST

-- another test that says the same of all but p
module _ (now_listed was_listed : Ip6 → Bool) (p : Ip6) (same : (q : Ip6) → same_ip6 p q ≡ false → now_listed q ≡ was_listed q) where
  abbrev others : List Ip6 → List Ip6
  others qs = filter now_listed (filter (λ (q : Ip6). not (same_ip6 p q)) qs)

  abbrev AsMany : List Ip6 → ℕ → Type 0
  AsMany qs more = length (filter was_listed qs) ≤ more + length (others qs)

  -- one in front that isn't p
  one_other : (q : Ip6) (qs : List Ip6) (more : ℕ) → same_ip6 p q ≡ false → AsMany qs more → AsMany (q ∷ qs) more
  one_other q qs more apart ih = subst (λ (b : Bool). length (filter was_listed (q ∷ qs))
      ≤ more + length (filter now_listed (cond (not b) (q ∷ filter (λ (z : Ip6). not (same_ip6 p z)) qs) (filter (λ (z : Ip6). not (same_ip6 p z)) qs))))
      (sym apart) (by (was_listed q) (now_listed q) (same q apart)) where
        by : (b c : Bool) → c ≡ b → length (cond b (q ∷ filter was_listed qs) (filter was_listed qs))
            ≤ more + length (cond c (q ∷ others qs) (others qs))
        by true true e = omega (arith, ih)
        by false false e = ih
        by true false e = absurd (false≢true e)
        by false true e = absurd (false≢true (sym e))

  -- p in front, of which the old test says nothing more
  one_same : (q : Ip6) (qs : List Ip6) (more : ℕ) → same_ip6 p q ≡ true → length (filter was_listed (q ∷ qs)) ≤ more + length (others qs)
      → AsMany (q ∷ qs) more
  one_same q qs more is le = subst (λ (b : Bool). length (filter was_listed (q ∷ qs))
      ≤ more + length (filter now_listed (cond (not b) (q ∷ filter (λ (z : Ip6). not (same_ip6 p z)) qs) (filter (λ (z : Ip6). not (same_ip6 p z)) qs))))
      (sym is) le

  -- where p isn't there
  as_many : (qs : List Ip6) → AllByRecursion (λ (q : Ip6). same_ip6 p q ≡ false) qs → AsMany qs 0
  as_many [] none = omega arith
  as_many (q ∷ qs) none = one_other q qs 0 none.0 (as_many qs none.1)

  -- where the old test fails of p
  as_many_without : was_listed p ≡ false → (qs : List Ip6) → AsMany qs 0
  as_many_without fails [] = omega arith
  as_many_without fails (q ∷ qs) = by (same_ip6 p q) refl (as_many_without fails qs) where
    by : (b : Bool) → same_ip6 p q ≡ b → AsMany qs 0 → AsMany (q ∷ qs) 0
    by false apart ih = one_other q qs 0 apart ih
    by true is ih = one_same q qs 0 is (subst (λ (b : Bool). length (cond b (q ∷ filter was_listed qs) (filter was_listed qs)) ≤ 0 + length (others qs))
        (sym (ap was_listed (sym (same_ip6-true p q is)) ∙ fails)) ih)

  -- and one more at most where each is there once
  one_more : (qs : List Ip6) → IsDistinct same_ip6 qs → AsMany qs 1
  one_more [] once = omega arith
  one_more (q ∷ qs) once = by (same_ip6 p q) refl (one_more qs (IsDistinct-tail same_ip6 q qs once)) where
    at_most : (b : Bool) → length (filter was_listed qs) ≤ 0 + length (others qs)
        → length (cond b (q ∷ filter was_listed qs) (filter was_listed qs)) ≤ 1 + length (others qs)
    at_most true le = omega (arith, le)
    at_most false le = omega (arith, le)

    by : (b : Bool) → same_ip6 p q ≡ b → AsMany qs 1 → AsMany (q ∷ qs) 1
    by false apart ih = one_other q qs 1 apart ih
    by true is ih = one_same q qs 1 is (at_most (was_listed q) (as_many qs (subst (λ (z : Ip6). AllByRecursion (λ (u : Ip6). same_ip6 z u ≡ false) qs)
        (sym (same_ip6-true p q is)) (IsDistinct-head same_ip6 q qs once))))

-- as many as may be listed at most are no more than that
pub over : (k : ℕ) → k ≤ 256 → nat_le (k + (0 + 0)) 256 ≡ false → ⊥
over k le e = grind (arith, nat_tests, le, e)

-- ONE MORE ENTRY

-- that touches p
module _ (e : Mention) (j : List Mention) (n : ℕ) (p : Ip6) (about : e.peer ≡ Some p) (touches : e.bearing.touches ≡ true) (at : e.moment ≡ n) where
  its_touch : is_touch_of p e ≡ true
  its_touch = ap (λ (o : Option Ip6). cond (is_peer p o) e.bearing.touches false) about
      ∙ ap (λ (b : Bool). cond b e.bearing.touches false) (same_ip6-self p) ∙ touches

  listed_now : is_listed p n (e ∷ j) ≡ true
  unfolding is_listed
  listed_now = ap (λ (b : Bool). is_recent_touch LISTED_MS n (cond b (Some e) (find (is_touch_of p) j))) its_touch
      ∙ ap (is_younger LISTED_MS n) at ∙ young_now n

  abbrev rest : List Ip6
  rest = filter (λ (q : Ip6). is_listed q n (e ∷ j)) (filter (λ (q : Ip6). not (same_ip6 p q)) (touched j))

  now_there : length (listed (e ∷ j) n) ≡ 1 + length rest
  unfolding listed touched
  now_there =
      ap (λ (o : Option Ip6). length (filter (λ (q : Ip6). is_listed q n (e ∷ j)) (with_peer o (touched j))))
      (ap (λ (b : Bool). cond b e.peer None) touches ∙ about)
      ∙ ap (λ (b : Bool). length (cond b (p ∷ rest) rest)) listed_now
      ∙ (let one : suc (length rest) ≡ 1 + length rest = omega arith in one)

  abbrev was : Ip6 → Bool
  was q = is_listed q n j

  -- lists no fewer than before, and one more where p wasn't listed
  no_fewer : length (listed j n) ≤ length (listed (e ∷ j) n)
  unfolding listed
  no_fewer = let all = one_more (λ (q : Ip6). is_listed q n (e ∷ j)) was p (others_stay e j n about touches) (touched j) (touched_once j) in
      omega (arith, all, now_there)

  one_listed : is_listed p n j ≡ false → 1 + length (listed j n) ≤ length (listed (e ∷ j) n)
  unfolding listed
  one_listed unlisted = let all = as_many_without (λ (q : Ip6). is_listed q n (e ∷ j)) was p (others_stay e j n about touches) unlisted (touched j) in
      omega (arith, all, now_there)

  -- so where there was no room for another one there is none
  pub full_still : (v : Ip6) → same_ip6 p v ≡ false → has_room j n v ≡ false → has_room (e ∷ j) n v ≡ false
  unfolding has_room
  full_still v apart full =
      let parts = or_parts (is_listed v n j) (nat_lt (length (listed j n)) PEERS_MAX) full in
      ap (λ (b : Bool). b || nat_lt (length (listed (e ∷ j) n)) PEERS_MAX) (others_stay e j n about touches v apart ∙ parts.0)
      ∙ as_full (length (listed j n)) (length (listed (e ∷ j) n)) no_fewer parts.1 where
        as_full : (m k : ℕ) → m ≤ k → nat_lt m 256 ≡ false → nat_lt k 256 ≡ false
        as_full m k le e = grind (arith, nat_tests, le, e)

  -- so there is no room for another one, where there was none for both
  pub no_room_left : (v : Ip6) → same_ip6 p v ≡ false → length (listed j n) ≤ PEERS_MAX → has_room j n p ≡ true → has_room_for_both j n p v ≡ false
      → has_room (e ∷ j) n v ≡ false
  unfolding has_room
  no_room_left v apart few room both =
      by (is_listed p n j) (is_listed v n j) refl (others_stay e j n about touches v apart) room both where
        too_many : (b : Bool) → is_listed v n (e ∷ j) ≡ b → b ≡ false → 256 ≤ length (listed (e ∷ j) n)
            → (is_listed v n (e ∷ j) || nat_lt (length (listed (e ∷ j) n)) PEERS_MAX) ≡ false
        too_many b is none full = ap (λ (c : Bool). c || nat_lt (length (listed (e ∷ j) n)) PEERS_MAX) (is ∙ none) ∙ grind (arith, nat_tests, full)

        by : (a b : Bool) → is_listed p n j ≡ a → is_listed v n (e ∷ j) ≡ b → (a || nat_lt (length (listed j n)) PEERS_MAX) ≡ true
            → nat_le (length (listed j n) + (cond a 0 1 + cond b 0 1)) PEERS_MAX ≡ false
            → (is_listed v n (e ∷ j) || nat_lt (length (listed (e ∷ j) n)) PEERS_MAX) ≡ false
        by true true ea eb r f = absurd (over (length (listed j n)) few f)
        by true false ea eb r f = too_many false eb refl (let more = no_fewer in enough (length (listed j n)) (length (listed (e ∷ j) n)) more f) where
          enough : (m k : ℕ) → m ≤ k → nat_le (m + (0 + 1)) 256 ≡ false → 256 ≤ k
          enough m k le e = grind (arith, nat_tests, le, e)
        by false true ea eb r f = absurd (over (length (listed j n)) r f) where
          over : (m : ℕ) → nat_lt m 256 ≡ true → nat_le (m + (1 + 0)) 256 ≡ false → ⊥
          over m less e = grind (arith, nat_tests, less, e)
        by false false ea eb r f = too_many false eb refl (enough (length (listed j n)) (length (listed (e ∷ j) n)) (one_listed ea) f) where
          enough : (m k : ℕ) → 1 + m ≤ k → nat_le (m + (1 + 1)) 256 ≡ false → 256 ≤ k
          enough m k le e = grind (arith, nat_tests, le, e)
