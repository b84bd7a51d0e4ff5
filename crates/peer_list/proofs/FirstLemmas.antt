-- What is due before what, and the first of those whose packets wait.
use Rattle.peer_list.proofs.Words.{AllByRecursion, AreApart, Bool, Equal, Greater, Ip6, IsSince, IsTotalOrder, LISTED_MS, Less, List, Listing, Millis, None, NoneBefore, Option, Ordering, Peer, Some, [], ap, arith, cmp_due, cmp_ip6, cmp_ip6_total, cond, due_and_who, due_of, false, false≢true, filter, find, first_due_in, is_before, is_gt, is_listed_at, is_lt, is_none, is_of, is_some, is_sooner, is_within, least_by_due, lt-ltb, nat_cmp, nat_cmp_total, no_peer, not, on_total, option_map, or_left, or_right, ordering_reverse, ordering_then, peer_listed, refl, same_ip6, same_ip6-true, subst, sym, table, then_total, tied_itself, true, unwrap_or, upto, ℕ, ◌&&◌, ◌-◌, ◌<◌, ◌||◌, ◌∙◌, ◌∷◌, ◌≡◌}
use Rattle.peer_list.proofs.Orders.{has, IsLeast, best, same_best}
use Rattle.peer_list.proofs.DueLemmas.{whose, known_of_ls, Knows, knows, filter_twice, waits_at, first_due_is}
use Rattle.peer_list.proofs.Lists.{all_kept}

-- THE ORDER OF WHAT IS DUE

abbrev cmp_pair : Millis × Ip6 → Millis × Ip6 → Ordering
cmp_pair x y = ordering_then (nat_cmp x.0.0 y.0.0) (cmp_ip6 x.1 y.1)

pair_total : IsTotalOrder cmp_pair
pair_total = then_total (on_total (λ (x : Millis × Ip6). x.0.0) nat_cmp_total) (on_total (λ (x : Millis × Ip6). x.1) cmp_ip6_total)

lt_turned : (a : Ordering) → is_lt (ordering_reverse a) ≡ is_gt a
lt_turned Less = refl
lt_turned Equal = refl
lt_turned Greater = refl

less_turned : (x y : Millis × Ip6) → is_lt (cmp_pair x y) ≡ is_gt (cmp_pair y x)
less_turned x y = ap is_lt (pair_total.antisymm x y) ∙ lt_turned (cmp_pair y x)

not_gt : (a : Ordering) → is_lt a ≡ true → is_gt a ≡ false
not_gt Less h = refl
not_gt Equal h = absurd (false≢true h)
not_gt Greater h = absurd (false≢true h)

pub not_before_itself : (x : Millis × Ip6) → is_before x (Some x) ≡ false
not_before_itself x = ap is_lt (tied_itself pair_total x)

pub not_sooner_itself : (x : Option (Millis × Ip6)) → is_sooner x x ≡ false
not_sooner_itself None = refl
not_sooner_itself (Some x) = not_before_itself x

-- of two the one isn't due before the other
pub sooner_back : (x a : Option (Millis × Ip6)) → is_sooner x a ≡ true → is_sooner a x ≡ false
sooner_back None a h = absurd (false≢true h)
sooner_back (Some x) None h = refl
sooner_back (Some x) (Some a) h = less_turned a x ∙ not_gt (cmp_pair x a) h

-- what is due before one is due before whatever isn't due before that one
pub sooner_through : (x a b : Option (Millis × Ip6)) → is_sooner x a ≡ true → is_sooner b a ≡ false → is_sooner x b ≡ true
sooner_through None a b h k = absurd (false≢true h)
sooner_through (Some x) a None h k = refl
sooner_through (Some x) None (Some b) h k = absurd (false≢true (sym k))
sooner_through (Some x) (Some a) (Some b) h k = by_test (is_lt (cmp_pair x b)) refl where
  by_test : (c : Bool) → is_lt (cmp_pair x b) ≡ c → is_lt (cmp_pair x b) ≡ true
  by_test true e = e
  by_test false e =
      let late : is_gt (cmp_pair a x) ≡ false = upto pair_total a b x (sym (less_turned b a) ∙ k) (sym (less_turned x b) ∙ e) in
      absurd (false≢true (sym late ∙ sym (less_turned x a) ∙ h))

-- WHERE NONE CAN BE TOO OLD

-- none is taken out
pub all_stay : (first n : ℕ) (ls : List Listing) → n - first < LISTED_MS → AllByRecursion (λ (l : Listing). IsSince first l.peer.touched) ls → filter (is_listed_at n) ls ≡ ls
all_stay first n [] young a = refl
all_stay first n (l ∷ ls) young a =
    let listed : is_listed_at n l ≡ true = by_touch l.peer.touched a.0 in
    rw listed (ap (λ (ks : List Listing). l ∷ ks) (all_stay first n ls young a.1))
  where
    by_touch : (o : Option ℕ) → IsSince first o → is_within LISTED_MS n o ≡ true
    by_touch None h = absurd h
    by_touch (Some k) h = lt-ltb _ _ (omega (arith, young, h))

-- THE FIRST THAT IS DUE

pub all_pass : (test : Listing → Bool) (ls : List Listing) → AllByRecursion (λ (l : Listing). test l ≡ true) (filter test ls)
all_pass test [] = tt
all_pass test (l ∷ ls) = by_test (test l) refl (all_pass test ls) where
  by_test : (b : Bool) → test l ≡ b → AllByRecursion (λ (x : Listing). test x ≡ true) (filter test ls) → AllByRecursion (λ (x : Listing). test x ≡ true) (cond b (l ∷ filter test ls) (filter test ls))
  by_test true h rest = (h, rest)
  by_test false h rest = rest

pub waits_of : (n : ℕ) (l : Listing) → waits_at n l ≡ true → is_none l.peer.waiting ≡ false
waits_of n l h = by_test (is_listed_at n l) (is_none l.peer.waiting) refl h where
  by_test : (a b : Bool) → is_none l.peer.waiting ≡ b → (a && not b) ≡ true → is_none l.peer.waiting ≡ false
  by_test true true e k = absurd (false≢true k)
  by_test true false e k = e
  by_test false b e k = absurd (false≢true k)

pub nobody_waits : (n : ℕ) (ls : List Listing) → NoneBefore None ls → filter (waits_at n) ls ≡ []
nobody_waits n [] a = refl
nobody_waits n (x ∷ ls) a = by_test (is_listed_at n x) (is_none x.peer.waiting) refl (nobody_waits n ls a.1) where
  by_test : (b w : Bool) → is_none x.peer.waiting ≡ w → filter (waits_at n) ls ≡ [] → cond (b && not (is_none x.peer.waiting)) (x ∷ filter (waits_at n) ls) (filter (waits_at n) ls) ≡ []
  by_test true true e rest = rw e rest
  by_test false true e rest = rest
  by_test b false e rest = absurd (false≢true (sym (a.0 e)))

waits_split : (n : ℕ) (l : Listing) → waits_at n l ≡ true → (is_listed_at n l ≡ true) × (not (is_none l.peer.waiting) ≡ true)
waits_split n l h = by_test (is_listed_at n l) (not (is_none l.peer.waiting)) h where
  by_test : (a b : Bool) → (a && b) ≡ true → (a ≡ true) × (b ≡ true)
  by_test true b k = (refl, k)
  by_test false b k = absurd (false≢true k)

has_kept : (test : Listing → Bool) (p : Ip6) (ls : List Listing) (l : Listing) → find (is_of p) ls ≡ Some l → test l ≡ true → has p (whose (filter test ls)) ≡ true
has_kept test p [] l found passes = absurd (false≢true (ap is_some found))
has_kept test p (x ∷ ls) l found passes = by_test (same_ip6 p x.who) refl found (λ f. has_kept test p ls l f passes) where
  in_front : (b : Bool) → test x ≡ b → same_ip6 p x.who ≡ true → b ≡ true → has p (whose (cond b (x ∷ filter test ls) (filter test ls))) ≡ true
  in_front true e is t = or_left (same_ip6 p x.who) (has p (whose (filter test ls))) is
  in_front false e is t = absurd (false≢true t)

  behind : (b : Bool) → has p (whose (filter test ls)) ≡ true → has p (whose (cond b (x ∷ filter test ls) (filter test ls))) ≡ true
  behind true h = or_right (same_ip6 p x.who) (has p (whose (filter test ls))) h
  behind false h = h

  by_test : (b : Bool) → same_ip6 p x.who ≡ b → cond b (Some x) (find (is_of p) ls) ≡ Some l → (find (is_of p) ls ≡ Some l → has p (whose (filter test ls)) ≡ true) → has p (whose (filter test (x ∷ ls))) ≡ true
  by_test true is f rest =
      let same : x ≡ l = ap (λ (o : Option Listing). unwrap_or o x) f in
      in_front (test x) refl is (ap test same ∙ passes)
  by_test false is f rest = behind (test x) (rest f)

none_less : (f : Ip6 → Peer) (l : Listing) (ks : List Listing) → f l.who ≡ l.peer → Knows f ks → AllByRecursion (λ (k : Listing). is_before (due_and_who k) (Some (due_and_who l)) ≡ false) ks
    → (q : Ip6) → has q (whose ks) ≡ true → is_lt (cmp_due f q l.who) ≡ false
unfolding cmp_due
none_less f l [] due k a q h = absurd (false≢true h)
none_less f l (x ∷ ks) due k a q h = by_test (same_ip6 q x.who) refl h (none_less f l ks due k.1 a.1 q) where
  by_test : (b : Bool) → same_ip6 q x.who ≡ b → (b || has q (whose ks)) ≡ true → (has q (whose ks) ≡ true → is_lt (cmp_due f q l.who) ≡ false) → is_lt (ordering_then (nat_cmp (due_of (f q)) (due_of (f l.who))) (cmp_ip6 q l.who)) ≡ false
  by_test true is h' rest =
      ap (λ r. is_lt (ordering_then (nat_cmp (due_of (f r)) (due_of (f l.who))) (cmp_ip6 r l.who))) (same_ip6-true q x.who is)
      ∙ ap (λ (y : Peer). is_lt (ordering_then (nat_cmp (due_of y) (due_of (f l.who))) (cmp_ip6 x.who l.who))) k.0
      ∙ ap (λ (y : Peer). is_lt (ordering_then (nat_cmp (due_of x.peer) (due_of y)) (cmp_ip6 x.who l.who))) due
      ∙ a.0
  by_test false is h' rest = rest h'

-- a listing that waits is the first, where none that waits is due before it
pub first_is : (n : ℕ) (ls : List Listing) (l : Listing) → AreApart ls → find (is_of l.who) ls ≡ Some l → waits_at n l ≡ true
    → AllByRecursion (λ (k : Listing). is_before (due_and_who k) (Some (due_and_who l)) ≡ false) (filter (waits_at n) ls)
    → Some (due_and_who l) ≡ option_map due_and_who (first_due_in (table n ls) n)
first_is n ls l a found waits late =
    let f : Ip6 → Peer = known_of_ls ls n in
    let ps : List Ip6 = whose (filter (waits_at n) ls) in
    let known : f l.who ≡ l.peer = ap (λ o. unwrap_or (peer_listed n o) no_peer) found ∙ ap (λ b. unwrap_or (cond b (Some l.peer) None) no_peer) (waits_split n l waits).0 in
    let all_known : Knows f (filter (waits_at n) ls) = subst (Knows f) (filter_twice n ls) (all_kept (λ (k : Listing). f k.who ≡ k.peer) (λ (k : Listing). not (is_none k.peer.waiting)) (filter (is_listed_at n) ls) (knows n ls a)) in
    let least : IsLeast f l.who ps = (has_kept (waits_at n) l.who ls l found waits, none_less f l (filter (waits_at n) ls) known all_known late) in
    let same : least_by_due f ps ≡ Some l.who = same_best f ps ps (least_by_due f ps) (Some l.who) (λ q. refl) (best f ps) least in
    sym (first_due_is n n ls a ∙ ap (option_map (λ p. (record { 0 = due_of (f p) }, p))) same ∙ ap (λ (y : Peer). Some (record { 0 = due_of y }, l.who)) known)

-- where none waits none is first
pub first_is_none : (n : ℕ) (ls : List Listing) → AreApart ls → filter (waits_at n) ls ≡ [] → None ≡ option_map due_and_who (first_due_in (table n ls) n)
first_is_none n ls a none =
    let f : Ip6 → Peer = known_of_ls ls n in
    sym (first_due_is n n ls a ∙ ap (λ ks. option_map (λ p. (record { 0 = due_of (f p) }, p)) (least_by_due f (whose ks))) none)
