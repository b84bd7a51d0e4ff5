-- Who is listed in a table, how many packets wait and who is due first, listing by listing.
use Rattle.peer_list.proofs.Words.{AllByRecursion, AreApart, Bool, Ip6, List, Listing, Millis, None, Option, Peer, Some, [], addresses, ap, append-nil, arith, cmp_due, cmp_ip6, cond, due_and_who, due_of, earlier_due, false, false≢true, filter, find, first_among, first_due_in, first_of_two, get_or, is_listed_at, is_lt, is_none, is_of, is_some, kept_among, kept_count, least_by_due, length, listed_in, map, nat_cmp, no_peer, not, option_map, ordering_then, peer_in, peer_listed, refl, same_ip6, same_ip6-self, suc, sum_by, sum_by-cons, sym, table, take, take_more, true, unwrap_or, waiting_in, zero, ℕ, ◌&&◌, ◌++◌, ◌+◌, ◌<◌, ◌||◌, ◌∙◌, ◌∷◌, ◌≡◌}
use Rattle.peer_list.proofs.Lists.{other_way, all_kept}
use Rattle.peer_list.proofs.Bearings.{some_if}
use Rattle.peer_list.proofs.Orders.{has, best, best_with, same_best}
use Rattle.peer_list.proofs.ListingLemmas.{all_at}

abbrev pub whose : List Listing → List Ip6
whose ls = map (λ (l : Listing). l.who) ls

-- what a table with these listings knows of p at n
abbrev peer_of_ls : List Listing → ℕ → Ip6 → Option Peer
peer_of_ls ls n p = peer_listed n (find (is_of p) ls)

-- THE LISTED ADDRESSES

all_pass : (p : Ip6) (ls : List Listing) → AllByRecursion (λ (o : Listing). same_ip6 p o.who ≡ false) ls → filter (λ q. not (same_ip6 p q)) (whose ls) ≡ whose ls
all_pass p [] a = refl
all_pass p (l ∷ ls) a = let other = a.0 in rw other (ap (λ (ps : List Ip6). l.who ∷ ps) (all_pass p ls a.1))

addresses_are : (ls : List Listing) → AreApart ls → addresses ls ≡ whose ls
addresses_are [] a = refl
addresses_are (l ∷ ls) a = ap (λ (ps : List Ip6). l.who ∷ ps) (ap (filter (λ q. not (same_ip6 l.who q))) (addresses_are ls a.1) ∙ all_pass l.who ls a.0)

-- another listing in front
find_behind : (x : Listing) (ls : List Listing) (q : Ip6) → same_ip6 x.who q ≡ false → find (is_of q) (x ∷ ls) ≡ find (is_of q) ls
find_behind x ls q other = ap (λ b. cond b (Some x) (find (is_of q) ls)) (other_way x.who q other)

find_front : (x : Listing) (ls : List Listing) → find (is_of x.who) (x ∷ ls) ≡ Some x
find_front x ls = ap (λ b. cond b (Some x) (find (is_of x.who) ls)) (same_ip6-self x.who)

filter_behind : (n : ℕ) (x : Listing) (ls ks : List Listing) → AllByRecursion (λ (o : Listing). same_ip6 x.who o.who ≡ false) ks
    → filter (λ p. is_some (peer_of_ls (x ∷ ls) n p)) (whose ks) ≡ filter (λ p. is_some (peer_of_ls ls n p)) (whose ks)
filter_behind n x ls [] a = refl
filter_behind n x ls (k ∷ ks) a =
    ap (λ o. cond (is_some (peer_listed n o)) (k.who ∷ filter (λ p. is_some (peer_of_ls (x ∷ ls) n p)) (whose ks)) (filter (λ p. is_some (peer_of_ls (x ∷ ls) n p)) (whose ks))) (find_behind x ls k.who a.0)
    ∙ ap (λ ps. cond (is_some (peer_of_ls ls n k.who)) (k.who ∷ ps) ps) (filter_behind n x ls ks a.1)

filter_listed : (n : ℕ) (ls : List Listing) → AreApart ls → filter (λ p. is_some (peer_of_ls ls n p)) (whose ls) ≡ whose (filter (is_listed_at n) ls)
filter_listed n [] a = refl
filter_listed n (x ∷ ls) a =
    let front : is_some (peer_of_ls (x ∷ ls) n x.who) ≡ is_listed_at n x = ap (λ o. is_some (peer_listed n o)) (find_front x ls) ∙ some_if (is_listed_at n x) x.peer in
    ap (λ b. cond b (x.who ∷ filter (λ p. is_some (peer_of_ls (x ∷ ls) n p)) (whose ls)) (filter (λ p. is_some (peer_of_ls (x ∷ ls) n p)) (whose ls))) front
    ∙ ap (λ ps. cond (is_listed_at n x) (x.who ∷ ps) ps) (filter_behind n x ls ls a.0 ∙ filter_listed n ls a.1)
    ∙ by_test (is_listed_at n x)
  where
    by_test : (b : Bool) → cond b (x.who ∷ whose (filter (is_listed_at n) ls)) (whose (filter (is_listed_at n) ls)) ≡ whose (cond b (x ∷ filter (is_listed_at n) ls) (filter (is_listed_at n) ls))
    by_test true = refl
    by_test false = refl

pub listed_are_whose : (m n : ℕ) (ls : List Listing) → AreApart ls → listed_in (table m ls) n ≡ whose (filter (is_listed_at n) ls)
unfolding listed_in peer_in
listed_are_whose m n ls a = ap (filter (λ p. is_some (peer_of_ls ls n p))) (addresses_are ls a) ∙ filter_listed n ls a

length_whose : (ls : List Listing) → length (whose ls) ≡ length ls
length_whose [] = refl
length_whose (l ∷ ls) = ap suc (length_whose ls)

pub count_is : (m n : ℕ) (ls : List Listing) → AreApart ls → length (listed_in (table m ls) n) ≡ length (filter (is_listed_at n) ls)
count_is m n ls a = ap length (listed_are_whose m n ls a) ∙ length_whose (filter (is_listed_at n) ls)

-- WHAT IS KNOWN OF THEM

-- f knows of each of these what its listing says
abbrev pub Knows : (Ip6 → Peer) → List Listing → Type 0
Knows f ls = AllByRecursion (λ (l : Listing). f l.who ≡ l.peer) ls

abbrev pub known_of_ls : List Listing → ℕ → Ip6 → Peer
known_of_ls ls n p = unwrap_or (peer_of_ls ls n p) no_peer

pub all_both : (P Q R : Listing → Type 0) (ls : List Listing) → ((l : Listing) → P l → Q l → R l) → AllByRecursion P ls → AllByRecursion Q ls → AllByRecursion R ls
all_both P Q R [] f a b = tt
all_both P Q R (l ∷ ls) f a b = (f l a.0 b.0, all_both P Q R ls f a.1 b.1)

known_front : (n : ℕ) (x : Listing) (ls : List Listing) → is_listed_at n x ≡ true → known_of_ls (x ∷ ls) n x.who ≡ x.peer
known_front n x ls listed = ap (λ o. unwrap_or (peer_listed n o) no_peer) (find_front x ls) ∙ ap (λ b. unwrap_or (cond b (Some x.peer) None) no_peer) listed

pub knows : (n : ℕ) (ls : List Listing) → AreApart ls → Knows (known_of_ls ls n) (filter (is_listed_at n) ls)
knows n [] a = tt
knows n (x ∷ ls) a =
    let rest : Knows (known_of_ls (x ∷ ls) n) (filter (is_listed_at n) ls) =
    all_both (λ l. same_ip6 x.who l.who ≡ false) (λ l. known_of_ls ls n l.who ≡ l.peer) (λ l. known_of_ls (x ∷ ls) n l.who ≡ l.peer) (filter (is_listed_at n) ls)
    (λ l other known. ap (λ o. unwrap_or (peer_listed n o) no_peer) (find_behind x ls l.who other) ∙ known)
    (all_kept (λ (o : Listing). same_ip6 x.who o.who ≡ false) (is_listed_at n) ls a.0) (knows n ls a.1) in
    by_test (is_listed_at n x) refl rest
  where
    by_test : (b : Bool) → is_listed_at n x ≡ b → Knows (known_of_ls (x ∷ ls) n) (filter (is_listed_at n) ls) → Knows (known_of_ls (x ∷ ls) n) (cond b (x ∷ filter (is_listed_at n) ls) (filter (is_listed_at n) ls))
    by_test true listed rest = (known_front n x ls listed, rest)
    by_test false listed rest = rest

-- PACKETS

sum_whose : (f : Ip6 → Peer) (ls : List Listing) → Knows f ls → sum_by (λ p. kept_count (f p)) (whose ls) ≡ sum_by (λ (l : Listing). kept_count l.peer) ls
sum_whose f [] k = refl
sum_whose f (l ∷ ls) k =
    sum_by-cons (λ p. kept_count (f p)) l.who (whose ls)
    ∙ ap (λ (x : Peer). kept_count x + sum_by (λ p. kept_count (f p)) (whose ls)) k.0
    ∙ ap (λ n. kept_count l.peer + n) (sum_whose f ls k.1)
    ∙ sym (sum_by-cons (λ (x : Listing). kept_count x.peer) l ls)

pub waiting_is : (m n : ℕ) (ls : List Listing) → AreApart ls → waiting_in (table m ls) n ≡ sum_by (λ (l : Listing). kept_count l.peer) (filter (is_listed_at n) ls)
unfolding kept_among peer_in
waiting_is m n ls a =
    ap (λ ps. sum_by (λ p. kept_count (known_of_ls ls n p)) ps) (listed_are_whose m n ls a)
    ∙ sum_whose (known_of_ls ls n) (filter (is_listed_at n) ls) (knows n ls a)

-- THE FIRST THAT IS DUE

-- listed, and packets wait for it
abbrev pub waits_at : ℕ → Listing → Bool
waits_at n l = is_listed_at n l && not (is_none l.peer.waiting)

waits_whose : (f : Ip6 → Peer) (ls : List Listing) → Knows f ls → filter (λ p. not (is_none (f p).waiting)) (whose ls) ≡ whose (filter (λ (l : Listing). not (is_none l.peer.waiting)) ls)
waits_whose f [] k = refl
waits_whose f (l ∷ ls) k =
    ap (λ (x : Peer). cond (not (is_none x.waiting)) (l.who ∷ filter (λ p. not (is_none (f p).waiting)) (whose ls)) (filter (λ p. not (is_none (f p).waiting)) (whose ls))) k.0
    ∙ ap (λ ps. cond (not (is_none l.peer.waiting)) (l.who ∷ ps) ps) (waits_whose f ls k.1)
    ∙ by_test (not (is_none l.peer.waiting))
  where
    by_test : (b : Bool) → cond b (l.who ∷ whose (filter (λ (x : Listing). not (is_none x.peer.waiting)) ls))
        (whose (filter (λ (x : Listing). not (is_none x.peer.waiting)) ls))
        ≡ whose (cond b (l ∷ filter (λ (x : Listing). not (is_none x.peer.waiting)) ls) (filter (λ (x : Listing). not (is_none x.peer.waiting)) ls))
    by_test true = refl
    by_test false = refl

pub filter_twice : (n : ℕ) (ls : List Listing) → filter (λ (l : Listing). not (is_none l.peer.waiting)) (filter (is_listed_at n) ls) ≡ filter (waits_at n) ls
filter_twice n [] = refl
filter_twice n (l ∷ ls) = by_test (is_listed_at n l) (filter_twice n ls) where
  by_test : (b : Bool) → filter (λ (x : Listing). not (is_none x.peer.waiting)) (filter (is_listed_at n) ls) ≡ filter (waits_at n) ls
      → filter (λ (x : Listing). not (is_none x.peer.waiting)) (cond b (l ∷ filter (is_listed_at n) ls) (filter (is_listed_at n) ls)) ≡ cond (b && not (is_none l.peer.waiting)) (l ∷ filter (waits_at n) ls) (filter (waits_at n) ls)
  by_test true h = ap (λ xs. cond (not (is_none l.peer.waiting)) (l ∷ xs) xs) h
  by_test false h = h

-- when p is due, and p
abbrev pub due_pair : (Ip6 → Peer) → Ip6 → Millis × Ip6
due_pair f p = (record { 0 = due_of (f p) }, p)

-- of these listings the first that is due
abbrev pub first_pair : List Listing → ℕ → List Listing → Option (Millis × Ip6)
first_pair ls n ks = option_map (due_pair (known_of_ls ls n)) (least_by_due (known_of_ls ls n) (whose (filter (waits_at n) ks)))

pair_of : (f : Ip6 → Peer) (o : Option Ip6) → option_map due_and_who (option_map (λ p. record { who = p; peer = f p }) o) ≡ option_map (due_pair f) o
pair_of f None = refl
pair_of f (Some p) = refl

pub first_due_is : (m n : ℕ) (ls : List Listing) → AreApart ls → option_map due_and_who (first_due_in (table m ls) n) ≡ first_pair ls n ls
unfolding first_among peer_in
first_due_is m n ls a =
    let f = known_of_ls ls n in
    pair_of f (least_by_due f (filter (λ p. not (is_none (f p).waiting)) (listed_in (table m ls) n)))
    ∙ ap (λ ps. option_map (due_pair f) (least_by_due f ps))
    (ap (filter (λ p. not (is_none (f p).waiting))) (listed_are_whose m n ls a)
    ∙ waits_whose f (filter (is_listed_at n) ls) (knows n ls a)
    ∙ ap whose (filter_twice n ls))

-- one more at the end of a list
has_end : (q p : Ip6) (ps : List Ip6) → has q (ps ++ p ∷ []) ≡ (same_ip6 q p || has q ps)
has_end q p [] = refl
has_end q p (x ∷ ps) = ap (λ b. same_ip6 q x || b) (has_end q p ps) ∙ swap (same_ip6 q x) (same_ip6 q p) (has q ps) where
  swap : (a b c : Bool) → (a || (b || c)) ≡ (b || (a || c))
  swap true true c = refl
  swap true false c = refl
  swap false true c = refl
  swap false false c = refl

least_with : (f : Ip6 → Peer) (p : Ip6) (ps : List Ip6) → least_by_due f (ps ++ p ∷ []) ≡ first_of_two f p (least_by_due f ps)
least_with f p ps = same_best f (ps ++ p ∷ []) (p ∷ ps) (least_by_due f (ps ++ p ∷ [])) (first_of_two f p (least_by_due f ps)) (λ q. has_end q p ps) (best f (ps ++ p ∷ [])) (best_with f p ps (least_by_due f ps) (best f ps))

pair_with : (f : Ip6 → Peer) (p : Ip6) (o : Option Ip6) → option_map (due_pair f) (first_of_two f p o) ≡ Some (earlier_due (due_pair f p) (option_map (due_pair f) o))
unfolding cmp_due
pair_with f p None = refl
pair_with f p (Some q) = by_test (is_lt (ordering_then (nat_cmp (due_of (f q)) (due_of (f p))) (cmp_ip6 q p))) where
  by_test : (b : Bool) → option_map (due_pair f) (cond b (Some q) (Some p)) ≡ Some (cond b (due_pair f q) (due_pair f p))
  by_test true = refl
  by_test false = refl

filter_end : (test : Listing → Bool) (ks : List Listing) (x : Listing) → filter test (ks ++ x ∷ []) ≡ filter test ks ++ cond (test x) (x ∷ []) []
filter_end test [] x = refl
filter_end test (k ∷ ks) x = by_test (test k) (filter_end test ks x) where
  by_test : (b : Bool) → filter test (ks ++ x ∷ []) ≡ filter test ks ++ cond (test x) (x ∷ []) []
      → cond b (k ∷ filter test (ks ++ x ∷ [])) (filter test (ks ++ x ∷ [])) ≡ cond b (k ∷ filter test ks) (filter test ks) ++ cond (test x) (x ∷ []) []
  by_test true h = ap (λ (xs : List Listing). k ∷ xs) h
  by_test false h = h

whose_end : (ks : List Listing) (x : Listing) → whose (ks ++ x ∷ []) ≡ whose ks ++ x.who ∷ []
whose_end [] x = refl
whose_end (k ∷ ks) x = ap (λ (ps : List Ip6). k.who ∷ ps) (whose_end ks x)

-- what is known of the address of a listing
find_self : (ls : List Listing) (i : ℕ) (d : Listing) → AreApart ls → i < length ls → d ≡ get_or ls i d → find (is_of d.who) ls ≡ Some d
find_self [] i d a k is = absurd (omega arith)
find_self (x ∷ ls) zero d a k is = ap (λ (y : Listing). find (is_of y.who) (x ∷ ls)) is ∙ find_front x ls ∙ ap Some (sym is)
find_self (x ∷ ls) (suc i) d a k is =
    let other : same_ip6 x.who d.who ≡ false = ap (λ (y : Listing). same_ip6 x.who y.who) is ∙ all_at (λ (o : Listing). same_ip6 x.who o.who ≡ false) ls i d (omega arith) a.0 in
    find_behind x ls d.who other ∙ find_self ls i d a.1 (omega arith) is

both_of_and : (a b : Bool) → (a && b) ≡ true → a ≡ true
both_of_and true b h = refl
both_of_and false b h = absurd (false≢true h)

pair_self : (n : ℕ) (ls : List Listing) (i : ℕ) (d : Listing) → AreApart ls → i < length ls → d ≡ get_or ls i d → waits_at n d ≡ true → due_pair (known_of_ls ls n) d.who ≡ due_and_who d
pair_self n ls i d a k is waits =
    let listed : is_listed_at n d ≡ true = both_of_and (is_listed_at n d) (not (is_none d.peer.waiting)) waits in
    let known : known_of_ls ls n d.who ≡ d.peer = ap (λ o. unwrap_or (peer_listed n o) no_peer) (find_self ls i d a k is) ∙ ap (λ b. unwrap_or (cond b (Some d.peer) None) no_peer) listed in
    ap (λ (x : Peer). (record { 0 = due_of x }, d.who)) known

-- the first of one listing more
pub first_more : (n : ℕ) (ls : List Listing) (i : ℕ) (d : Listing) → AreApart ls → i < length ls → d ≡ get_or ls i d
    → first_pair ls n (take (i + 1) ls) ≡ cond (waits_at n d) (Some (earlier_due (due_and_who d) (first_pair ls n (take i ls)))) (first_pair ls n (take i ls))
first_more n ls i d a k is =
    ap (first_pair ls n) (take_more ls i d k ∙ ap (λ (y : Listing). take i ls ++ y ∷ []) (sym is))
    ∙ ap (λ ks. option_map (due_pair f) (least_by_due f (whose ks))) (filter_end (waits_at n) (take i ls) d)
    ∙ by_test (waits_at n d) refl
  where
    f : Ip6 → Peer
    f = known_of_ls ls n

    ks : List Listing
    ks = filter (waits_at n) (take i ls)

    by_test : (b : Bool) → waits_at n d ≡ b → option_map (due_pair f) (least_by_due f (whose (ks ++ cond b (d ∷ []) [])))
        ≡ cond b (Some (earlier_due (due_and_who d) (option_map (due_pair f) (least_by_due f (whose ks)))))
        (option_map (due_pair f) (least_by_due f (whose ks)))
    by_test true waits =
        ap (λ ps. option_map (due_pair f) (least_by_due f ps)) (whose_end ks d)
        ∙ ap (option_map (due_pair f)) (least_with f d.who (whose ks))
        ∙ pair_with f d.who (least_by_due f (whose ks))
        ∙ ap (λ (x : Millis × Ip6). Some (earlier_due x (option_map (due_pair f) (least_by_due f (whose ks))))) (pair_self n ls i d a k is waits)
    by_test false waits = ap (λ (xs : List Listing). option_map (due_pair f) (least_by_due f (whose xs))) (append-nil ks)
