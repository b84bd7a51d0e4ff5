-- Peers that are touched one after the other at one moment: all of them are listed then.
use Rattle.full_tables.proofs.Words.{AllByRecursion, Bool, Ip6, LISTED_MS, List, Mention, None, Option, PEERS_MAX, Some, [], ap, cond, false, false≢true, filter, find, has_room, is_listed, is_peer, is_recent_touch, is_touch_of, is_younger, known, length, list_any, listed, listed_are, nat_lt, no_peer, not, refl, same_ip6, same_ip6-self, sym, touched, true, unlisted, with_peer, young_now, ℕ, ◌||◌, ◌∙◌, ◌∷◌, ◌≡◌}

-- THE LISTS

-- exactly these addresses were touched, and are listed at n
pub record ListsThese (j : List Mention) (n : ℕ) (ps : List Ip6) : Type 0 where
  pub touched : touched j ≡ ps
  pub listed : AllByRecursion (λ (p : Ip6). is_listed p n j ≡ true) ps

-- an entry that touches p at n
pub record TouchesNow (e : Mention) (n : ℕ) (p : Ip6) : Type 0 where
  pub peer : e.peer ≡ Some p
  pub moment : e.moment ≡ n
  pub touches : e.bearing.touches ≡ true

-- nobody passes out of those of whom none fails
kept_all : (test : Ip6 → Bool) (ps : List Ip6) → AllByRecursion (λ (p : Ip6). test p ≡ true) ps → filter test ps ≡ ps
kept_all test [] all = refl
kept_all test (p ∷ ps) all = ap (λ (b : Bool). cond b (p ∷ filter test ps) (filter test ps)) all.0 ∙ ap (λ (z : List Ip6). p ∷ z) (kept_all test ps all.1)

-- all others stay
others_stay : (p : Ip6) (ps : List Ip6) → list_any (same_ip6 p) ps ≡ false → filter (λ (q : Ip6). not (same_ip6 p q)) ps ≡ ps
others_stay p [] none = refl
others_stay p (q ∷ ps) none = by (same_ip6 p q) refl none (others_stay p ps) where
  by : (b : Bool) → same_ip6 p q ≡ b → (b || list_any (same_ip6 p) ps) ≡ false
      → (list_any (same_ip6 p) ps ≡ false → filter (λ (z : Ip6). not (same_ip6 p z)) ps ≡ ps)
      → cond (not b) (q ∷ filter (λ (z : Ip6). not (same_ip6 p z)) ps) (filter (λ (z : Ip6). not (same_ip6 p z)) ps) ≡ q ∷ ps
  by true is none rest = absurd (false≢true (sym none))
  by false is none rest = ap (λ (z : List Ip6). q ∷ z) (rest none)

-- ONE MORE

module _ (e : Mention) (j : List Mention) (n : ℕ) (p : Ip6) (is : TouchesNow e n p) where
  -- whom it touches is listed
  new_listed : is_listed p n (e ∷ j) ≡ true
  unfolding is_listed
  new_listed =
      ap (λ (o : Option Ip6). is_recent_touch LISTED_MS n (cond (cond (is_peer p o) e.bearing.touches false) (Some e) (find (is_touch_of p) j))) is.peer
      ∙ ap (λ (b : Bool). is_recent_touch LISTED_MS n (cond (cond b e.bearing.touches false) (Some e) (find (is_touch_of p) j))) (same_ip6-self p)
      ∙ ap (λ (b : Bool). is_recent_touch LISTED_MS n (cond b (Some e) (find (is_touch_of p) j))) is.touches
      ∙ ap (λ (m : ℕ). is_younger LISTED_MS n m) is.moment
      ∙ young_now n

  -- who was listed still is
  still_listed : (q : Ip6) → is_listed q n j ≡ true → is_listed q n (e ∷ j) ≡ true
  unfolding is_listed
  still_listed q before = by (is_touch_of q e) where
    by : (b : Bool) → is_recent_touch LISTED_MS n (cond b (Some e) (find (is_touch_of q) j)) ≡ true
    by true = ap (λ (m : ℕ). is_younger LISTED_MS n m) is.moment ∙ young_now n
    by false = before

  all_still : (ps : List Ip6) → AllByRecursion (λ (q : Ip6). is_listed q n j ≡ true) ps → AllByRecursion (λ (q : Ip6). is_listed q n (e ∷ j) ≡ true) ps
  all_still [] all = tt
  all_still (q ∷ ps) all = (still_listed q all.0, all_still ps all.1)

  -- so one that isn't among them comes in front of them
  pub one_more : (ps : List Ip6) → list_any (same_ip6 p) ps ≡ false → ListsThese j n ps → ListsThese (e ∷ j) n (p ∷ ps)
  unfolding touched
  one_more ps new these = record {
    touched =
        ap (λ (b : Bool). with_peer (cond b e.peer None) (touched j)) is.touches
        ∙ ap (λ (o : Option Ip6). with_peer o (touched j)) is.peer
        ∙ ap (λ (z : List Ip6). p ∷ filter (λ (q : Ip6). not (same_ip6 p q)) z) these.touched
        ∙ ap (λ (z : List Ip6). p ∷ z) (others_stay p ps new);
    listed = (new_listed, all_still ps these.listed);
  }

-- WHO IS LISTED

-- exactly they
pub listed_is : (j : List Mention) (n : ℕ) (ps : List Ip6) → ListsThese j n ps → listed j n ≡ ps
unfolding listed
listed_is j n ps these = ap (filter (λ (p : Ip6). is_listed p n j)) these.touched ∙ kept_all (λ (p : Ip6). is_listed p n j) ps these.listed

module _ (j : List Mention) (n : ℕ) (ps : List Ip6) (these : ListsThese j n ps) where
  -- another one isn't
  pub not_listed : (p : Ip6) → list_any (same_ip6 p) ps ≡ false → is_listed p n j ≡ false
  not_listed p none = sym (listed_are j n p) ∙ ap (list_any (same_ip6 p)) (listed_is j n ps these) ∙ none

  pub unknown : (p : Ip6) → list_any (same_ip6 p) ps ≡ false → known j n p ≡ no_peer
  unknown p none = unlisted j n p (not_listed p none)

  -- there is room for it while they are few
  pub room_by_count : (p : Ip6) → list_any (same_ip6 p) ps ≡ false → has_room j n p ≡ nat_lt (length ps) PEERS_MAX
  unfolding has_room
  room_by_count p none =
      ap (λ (b : Bool). b || nat_lt (length (listed j n)) PEERS_MAX) (not_listed p none)
      ∙ ap (λ (z : List Ip6). nat_lt (length z) PEERS_MAX) (listed_is j n ps these)
