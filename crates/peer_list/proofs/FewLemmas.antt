-- Never more than 256 peers are listed.
use Rattle.peer_list.proofs.Words.{Bool, FewListed, FindsRoom, Ip6, LISTED_MS, List, Mention, None, Option, PEERS_MAX, Some, [], ap, arith, cond, false, false≢true, filter, find, has_room, is_about, is_listed, is_recent_touch, is_touch_of, is_younger, length, length-filter, listed, lt-ltb, ltb-true, nat_lt, not, refl, same_ip6, same_ip6-true, sum_by, sum_by-cons, sum_by-le-sum_by, touched, true, with_peer, ℕ, ◌+◌, ◌-◌, ◌<◌, ◌||◌, ◌∙◌, ◌∷◌, ◌≡◌, ◌≤◌}
use Rattle.peer_list.proofs.Lists.{listed_was_touched, other_way}
use Rattle.peer_list.proofs.Orders.{has, without}

-- SUMS

pub fewer_pass : (w : Ip6 → ℕ) (test : Ip6 → Bool) (ps : List Ip6) → sum_by w (filter test ps) ≤ sum_by w ps
fewer_pass w test [] = omega arith
fewer_pass w test (p ∷ ps) = by (test p) (fewer_pass w test ps) where
  by : (b : Bool) → sum_by w (filter test ps) ≤ sum_by w ps → sum_by w (cond b (p ∷ filter test ps) (filter test ps)) ≤ sum_by w (p ∷ ps)
  by true rest = omega (arith, rest, sum_by-cons w p (filter test ps), sum_by-cons w p ps)
  by false rest = omega (arith, rest, sum_by-cons w p ps)

-- one of them in front, and the others behind it
moved : (w : Ip6 → ℕ) (p : Ip6) (ps : List Ip6) → has p ps ≡ true → w p + sum_by w (without p ps) ≤ sum_by w ps
moved w p [] h = absurd (false≢true h)
moved w p (q ∷ ps) h = by (same_ip6 p q) refl h (moved w p ps) where
  by : (b : Bool) → same_ip6 p q ≡ b → (b || has p ps) ≡ true → (has p ps ≡ true → w p + sum_by w (without p ps) ≤ sum_by w ps) → w p + sum_by w (cond (not b) (q ∷ without p ps) (without p ps)) ≤ sum_by w (q ∷ ps)
  by true is k before =
      let same : w p ≡ w q = ap w (same_ip6-true p q is) in
      let few : sum_by w (without p ps) ≤ sum_by w ps = fewer_pass w (λ r. not (same_ip6 p r)) ps in
      omega (arith, same, few, sum_by-cons w q ps)
  by false is k before =
      let inner : w p + sum_by w (without p ps) ≤ sum_by w ps = before k in
      omega (arith, inner, sum_by-cons w q (without p ps), sum_by-cons w q ps)

-- the others alone
others : (w v : Ip6 → ℕ) (p : Ip6) (ps : List Ip6) → ((q : Ip6) → same_ip6 p q ≡ false → w q ≤ v q) → sum_by w (without p ps) ≤ sum_by v (without p ps)
others w v p [] all = omega arith
others w v p (q ∷ ps) all = by (same_ip6 p q) refl (others w v p ps all) where
  by : (b : Bool) → same_ip6 p q ≡ b → sum_by w (without p ps) ≤ sum_by v (without p ps) → sum_by w (cond (not b) (q ∷ without p ps) (without p ps)) ≤ sum_by v (cond (not b) (q ∷ without p ps) (without p ps))
  by true is rest = rest
  by false is rest = let one : w q ≤ v q = all q is in omega (arith, one, rest, sum_by-cons w q (without p ps), sum_by-cons v q (without p ps))

-- WHO COUNTS

abbrev one_if : Bool → ℕ
one_if b = cond b 1 0

-- an address, where it is listed
abbrev counts : List Mention → ℕ → Ip6 → ℕ
counts j n p = one_if (is_listed p n j)

count_is : (j : List Mention) (n : ℕ) → length (listed j n) ≡ sum_by (counts j n) (touched j)
unfolding listed
count_is j n = length-filter (λ p. is_listed p n j) (touched j)

-- who is listed later was before
recent_before : (m n : ℕ) (o : Option Mention) → m ≤ n → one_if (is_recent_touch LISTED_MS n o) ≤ one_if (is_recent_touch LISTED_MS m o)
recent_before m n None l = omega arith
recent_before m n (Some e) l = by (is_younger LISTED_MS n e.moment) refl where
  by : (b : Bool) → is_younger LISTED_MS n e.moment ≡ b → one_if b ≤ one_if (is_younger LISTED_MS m e.moment)
  by false h = omega arith
  by true h =
      let less : n - e.moment < LISTED_MS = ltb-true (n - e.moment) LISTED_MS h in
      let before : is_younger LISTED_MS m e.moment ≡ true = lt-ltb (m - e.moment) LISTED_MS (omega (arith, less, l)) in
      rw before (omega arith)

-- an entry that doesn't touch it changes nothing
count_before : (e : Mention) (j : List Mention) (m n : ℕ) (p : Ip6) → m ≤ n → is_touch_of p e ≡ false → counts (e ∷ j) n p ≤ counts j m p
unfolding is_listed
count_before e j m n p l other =
    let same : one_if (is_recent_touch LISTED_MS n (find (is_touch_of p) (e ∷ j)))
    ≡ one_if (is_recent_touch LISTED_MS n (find (is_touch_of p) j)) =
    ap (λ b. one_if (is_recent_touch LISTED_MS n (cond b (Some e) (find (is_touch_of p) j)))) other in
    let less : one_if (is_recent_touch LISTED_MS n (find (is_touch_of p) j)) ≤ one_if (is_recent_touch LISTED_MS m (find (is_touch_of p) j)) = recent_before m n (find (is_touch_of p) j) l in
    omega (arith, same, less)

one_at_most : (b : Bool) → one_if b ≤ 1
one_at_most true = omega arith
one_at_most false = omega arith

-- ONE FURTHER ENTRY

no_touch : (b : Bool) → cond b false false ≡ false
no_touch true = refl
no_touch false = refl

abbrev MoreFew : Mention → List Mention → ℕ → List Ip6 → Type 0
MoreFew e j n ps = sum_by (counts (e ∷ j) n) ps ≤ PEERS_MAX

untouched : (e : Mention) (j : List Mention) (n : ℕ) → e.moment ≤ n → ((p : Ip6) → is_touch_of p e ≡ false) → length (listed j e.moment) ≤ PEERS_MAX → MoreFew e j n (touched j)
untouched e j n l none few =
    let less : sum_by (counts (e ∷ j) n) (touched j) ≤ sum_by (counts j e.moment) (touched j) = sum_by-le-sum_by (counts (e ∷ j) n) (counts j e.moment) (touched j) (λ p. count_before e j e.moment n p l (none p)) in
    omega (arith, less, few, count_is j e.moment)

-- p is touched, and finds room
with_room : (e : Mention) (j : List Mention) (n : ℕ) (p : Ip6) → e.moment ≤ n → ((q : Ip6) → same_ip6 p q ≡ false → is_touch_of q e ≡ false) → length (listed j e.moment) ≤ PEERS_MAX
    → has_room j e.moment p ≡ true → MoreFew e j n (p ∷ without p (touched j))
unfolding has_room
with_room e j n p l other few room = by (is_listed p e.moment j) refl room where
  later : sum_by (counts (e ∷ j) n) (without p (touched j)) ≤ sum_by (counts j e.moment) (without p (touched j))
  later = others (counts (e ∷ j) n) (counts j e.moment) p (touched j) (λ q apart. count_before e j e.moment n q l (other q apart))

  mine : counts (e ∷ j) n p ≤ 1
  mine = one_at_most (is_listed p n (e ∷ j))

  by : (b : Bool) → is_listed p e.moment j ≡ b → (b || nat_lt (length (listed j e.moment)) PEERS_MAX) ≡ true → MoreFew e j n (p ∷ without p (touched j))
  by true h room =
      let one : counts j e.moment p ≡ 1 = ap one_if h in
      let all : counts j e.moment p + sum_by (counts j e.moment) (without p (touched j)) ≤ sum_by (counts j e.moment) (touched j) = moved (counts j e.moment) p (touched j) (listed_was_touched j e.moment p h) in
      omega (arith, later, mine, one, all, few, count_is j e.moment, sum_by-cons (counts (e ∷ j) n) p (without p (touched j)))
  by false h room =
      let fewer : length (listed j e.moment) < PEERS_MAX = ltb-true (length (listed j e.moment)) PEERS_MAX room in
      let all : sum_by (counts j e.moment) (without p (touched j)) ≤ sum_by (counts j e.moment) (touched j) = fewer_pass (counts j e.moment) (λ q. not (same_ip6 p q)) (touched j) in
      omega (arith, later, mine, all, fewer, count_is j e.moment, sum_by-cons (counts (e ∷ j) n) p (without p (touched j)))

-- the entry, by whether it touches, and whom it is about
one_more : (n : ℕ) (t : Bool) (o : Option Ip6) (e : Mention) (j : List Mention) → e.moment ≤ n → e.peer ≡ o → e.bearing.touches ≡ t → FindsRoom e j → length (listed j e.moment) ≤ PEERS_MAX
    → MoreFew e j n (with_peer (cond t o None) (touched j))
one_more n false o e j l about t room few = untouched e j n l (λ p. ap (λ b. cond (is_about p e) b false) t ∙ no_touch (is_about p e)) few
one_more n true None e j l about t room few = untouched e j n l (λ p. ap (λ (x : Option Ip6). cond (is_about p (record e { peer = x })) e.bearing.touches false) about) few
one_more n true (Some p) e j l about t room few =
    with_room e j n p l
    (λ q apart. ap (λ (x : Option Ip6). cond (is_about q (record e { peer = x })) e.bearing.touches false) about ∙ ap (λ b. cond b e.bearing.touches false) (other_way p q apart))
    few (room p (ap (λ b. cond b e.peer None) t ∙ about))

pub few_listed : FewListed
unfolding touched
few_listed [] n order past room = no_peers n where
  no_peers : (k : ℕ) → length (listed [] k) ≤ PEERS_MAX
  no_peers k = let none : length (listed [] k) ≡ 0 = count_is [] k in omega (arith, none)
few_listed (e ∷ j) n order past room =
    let before : length (listed j e.moment) ≤ PEERS_MAX = few_listed j e.moment order.1 order.0 room.1 in
    let more : sum_by (counts (e ∷ j) n) (touched (e ∷ j)) ≤ PEERS_MAX = one_more n e.bearing.touches e.peer e j past.0 refl refl room.0 before in
    omega (arith, more, count_is (e ∷ j) n)
