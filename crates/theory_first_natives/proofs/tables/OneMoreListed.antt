-- One more peer that a client lists: room for two peers is room for the second one after the first.
use Rattle.theory_first_natives.proofs.Words.{Bool, Ip6, LISTED_MS, List, Mention, None, Option, PEERS_MAX, Some, [], ap, arith, cond, false, false≢true, filter, find, has_room, is_about, is_listed, is_recent_touch, is_touch_of, length, list_any, listed, listed_are, lt-ltb, nat_lt, nat_tests, not, or_left, or_right, other_way, refl, same_ip6, subst, suc, sym, touched, true, with_peer, ℕ, ◌+◌, ◌<◌, ◌||◌, ◌∙◌, ◌∷◌, ◌≡◌, ◌≤◌}

-- there is room for any peer where fewer are listed than may be
pub room_where : (j : List Mention) (n : ℕ) (q : Ip6) → length (listed j n) < PEERS_MAX → has_room j n q ≡ true
unfolding has_room
room_where j n q fewer = or_right (is_listed q n j) (nat_lt (length (listed j n)) PEERS_MAX) (lt-ltb (length (listed j n)) PEERS_MAX fewer)

-- fewer than two tests of which the first holds of no more where it matters
module _ (now_listed was_listed : Ip6 → Bool) (p : Ip6) (same : (q : Ip6) → same_ip6 p q ≡ false → now_listed q ≡ was_listed q) where
  fewer : (qs : List Ip6) → length (filter now_listed (filter (λ (q : Ip6). not (same_ip6 p q)) qs)) ≤ length (filter was_listed qs)
  fewer [] = omega arith
  fewer (q ∷ qs) = by (same_ip6 p q) refl (fewer qs) where
    more : (b : Bool) → length (filter was_listed qs) ≤ length (cond b (q ∷ filter was_listed qs) (filter was_listed qs))
    more true = omega arith
    more false = omega arith

    each : (b : Bool) → length (filter now_listed (filter (λ (z : Ip6). not (same_ip6 p z)) qs)) ≤ length (filter was_listed qs)
        → length (cond b (q ∷ filter now_listed (filter (λ (z : Ip6). not (same_ip6 p z)) qs))
        (filter now_listed (filter (λ (z : Ip6). not (same_ip6 p z)) qs)))
        ≤ length (cond b (q ∷ filter was_listed qs) (filter was_listed qs))
    each true ih = omega (arith, ih)
    each false ih = ih

    by : (b : Bool) → same_ip6 p q ≡ b → length (filter now_listed (filter (λ (z : Ip6). not (same_ip6 p z)) qs)) ≤ length (filter was_listed qs)
        → length (filter now_listed (cond (not b) (q ∷ filter (λ (z : Ip6). not (same_ip6 p z)) qs) (filter (λ (z : Ip6). not (same_ip6 p z)) qs)))
        ≤ length (cond (was_listed q) (q ∷ filter was_listed qs) (filter was_listed qs))
    by true e ih = let rest = more (was_listed q) in omega (arith, ih, rest)
    by false e ih = rw (same q e) (each (was_listed q) ih)

  -- one fewer, where the second one holds of that one
  one_fewer : (qs : List Ip6) → list_any (same_ip6 p) (filter was_listed qs) ≡ true
      → suc (length (filter now_listed (filter (λ (q : Ip6). not (same_ip6 p q)) qs))) ≤ length (filter was_listed qs)
  one_fewer [] some = absurd (false≢true some)
  one_fewer (q ∷ qs) some = by (same_ip6 p q) (was_listed q) refl refl (one_fewer qs) some where
    others : List Ip6
    others = filter (λ (z : Ip6). not (same_ip6 p z)) qs

    by : (b w : Bool) → same_ip6 p q ≡ b → was_listed q ≡ w
        → (list_any (same_ip6 p) (filter was_listed qs) ≡ true → suc (length (filter now_listed others)) ≤ length (filter was_listed qs))
        → list_any (same_ip6 p) (cond w (q ∷ filter was_listed qs) (filter was_listed qs)) ≡ true
        → suc (length (filter now_listed (cond (not b) (q ∷ others) others))) ≤ length (cond w (q ∷ filter was_listed qs) (filter was_listed qs))
    by true true e there ih some = let rest = fewer qs in omega (arith, rest)
    by true false e there ih some = ih some
    by false true e there ih some =
        let rest = ih (ap (λ (b : Bool). b || list_any (same_ip6 p) (filter was_listed qs)) (sym e) ∙ some) in
        rw (same q e ∙ there) (more (length (filter now_listed others)) (length (filter was_listed qs)) rest) where
          more : (m n : ℕ) → suc m ≤ n → suc (suc m) ≤ suc n
          more m n le = omega (arith, le)
    by false false e there ih some = rw (same q e ∙ there) (ih some)

-- an entry that touches p
module _ (e : Mention) (j : List Mention) (n : ℕ) {p : Ip6} (about : e.peer ≡ Some p) (touches : e.bearing.touches ≡ true) where
  -- leaves the others listed or not
  pub others_stay : (q : Ip6) → same_ip6 p q ≡ false → is_listed q n (e ∷ j) ≡ is_listed q n j
  unfolding is_listed
  others_stay q apart = ap (λ (b : Bool). is_recent_touch LISTED_MS n (cond b (Some e) (find (is_touch_of q) j))) no_touch where
    no_touch : is_touch_of q e ≡ false
    no_touch = ap (λ (o : Option Ip6). cond (is_about q (record e { peer = o })) e.bearing.touches false) about
        ∙ ap (λ (b : Bool). cond b e.bearing.touches false) (other_way p q apart)

  -- and lists one more at most
  pub one_more : length (listed (e ∷ j) n) ≤ suc (length (listed j n))
  unfolding listed touched
  one_more = subst (λ (o : Option Ip6). length (filter (λ (q : Ip6). is_listed q n (e ∷ j)) (with_peer o (touched j)))
      ≤ suc (length (filter (λ (q : Ip6). is_listed q n j) (touched j)))) (sym (ap (λ (b : Bool). cond b e.peer None) touches ∙ about))
      (by (is_listed p n (e ∷ j)) (fewer (λ (q : Ip6). is_listed q n (e ∷ j)) (λ (q : Ip6). is_listed q n j) p others_stay (touched j))) where
        by : (b : Bool) → length (filter (λ (q : Ip6). is_listed q n (e ∷ j)) (filter (λ (q : Ip6). not (same_ip6 p q)) (touched j)))
            ≤ length (filter (λ (q : Ip6). is_listed q n j) (touched j))
            → length (cond b (p ∷ filter (λ (q : Ip6). is_listed q n (e ∷ j)) (filter (λ (q : Ip6). not (same_ip6 p q)) (touched j)))
            (filter (λ (q : Ip6). is_listed q n (e ∷ j)) (filter (λ (q : Ip6). not (same_ip6 p q)) (touched j))))
            ≤ suc (length (filter (λ (q : Ip6). is_listed q n j) (touched j)))
        by true h = omega (arith, h)
        by false h = omega (arith, h)

  -- none more, where that peer was listed
  pub none_more : is_listed p n j ≡ true → length (listed (e ∷ j) n) ≤ length (listed j n)
  unfolding listed touched
  none_more there = subst (λ (o : Option Ip6). length (filter (λ (q : Ip6). is_listed q n (e ∷ j)) (with_peer o (touched j)))
      ≤ length (filter (λ (q : Ip6). is_listed q n j) (touched j))) (sym (ap (λ (b : Bool). cond b e.peer None) touches ∙ about))
      (by (is_listed p n (e ∷ j)) (one_fewer (λ (q : Ip6). is_listed q n (e ∷ j)) (λ (q : Ip6). is_listed q n j) p others_stay (touched j)
      (listed_are j n p ∙ there))) where
        by : (b : Bool) → suc (length (filter (λ (q : Ip6). is_listed q n (e ∷ j)) (filter (λ (q : Ip6). not (same_ip6 p q)) (touched j))))
            ≤ length (filter (λ (q : Ip6). is_listed q n j) (touched j))
            → length (cond b (p ∷ filter (λ (q : Ip6). is_listed q n (e ∷ j)) (filter (λ (q : Ip6). not (same_ip6 p q)) (touched j)))
            (filter (λ (q : Ip6). is_listed q n (e ∷ j)) (filter (λ (q : Ip6). not (same_ip6 p q)) (touched j))))
            ≤ length (filter (λ (q : Ip6). is_listed q n j) (touched j))
        by true h = omega (arith, h)
        by false h = omega (arith, h)

  -- so where there was room for two there is for one more
  pub room_left : length (listed j n) + 2 ≤ PEERS_MAX → (q : Ip6) → has_room (e ∷ j) n q ≡ true
  room_left two q = room_where (e ∷ j) n q (less (length (listed (e ∷ j) n)) (length (listed j n)) one_more two) where
    less : (a b : ℕ) → a ≤ suc b → b + 2 ≤ PEERS_MAX → a < PEERS_MAX
    less a b le two = omega (arith, le, two)

  -- and where there was room for another one, and for both where neither was listed, there is room for it
  pub room_beside : (q : Ip6) → same_ip6 p q ≡ false → has_room j n q ≡ true
      → (is_listed q n j ≡ false → is_listed p n j ≡ false → length (listed j n) + 2 ≤ PEERS_MAX) → has_room (e ∷ j) n q ≡ true
  unfolding has_room
  room_beside q apart room two = by (is_listed q n j) (is_listed p n j) refl refl where
    no_more : (a b : ℕ) → a ≤ b → nat_lt b PEERS_MAX ≡ true → a < PEERS_MAX
    no_more a b le few = grind (arith, nat_tests)

    by : (b c : Bool) → is_listed q n j ≡ b → is_listed p n j ≡ c → has_room (e ∷ j) n q ≡ true
    by true c there listed_too = or_left (is_listed q n (e ∷ j)) (nat_lt (length (listed (e ∷ j) n)) PEERS_MAX) (others_stay q apart ∙ there)
    by false true none there = room_where (e ∷ j) n q (no_more (length (listed (e ∷ j) n)) (length (listed j n)) (none_more there)
        (ap (λ (b : Bool). b || nat_lt (length (listed j n)) PEERS_MAX) (sym none) ∙ room))
    by false false none neither = room_left (two none neither) q
