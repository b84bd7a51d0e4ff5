-- Nothing is due of a table before what lies below none of its listings.
use Rattle.peer_list.proofs.Words.{AllByRecursion, AreApart, Bool, Ip6, IsNoSooner, IsNotBefore, List, Listing, Millis, None, NoneBefore, Option, PEERS_MAX, Peer, Some, [], ap, arith, cmp_ip6, due_moment, due_of, false, false≢true, filter, first_due_in, has_room_in, is_listed_at, is_none, is_some, least_by_due, length, length-filter_both, listed_in, lt-ltb, nat_lt, not, option_map, or_right, peer_in, refl, same_ip6, same_ip6-true, subst, sym, table, true, ℕ, ◌<◌, ◌||◌, ◌∙◌, ◌∷◌, ◌≡◌, ◌≤◌}
use Rattle.peer_list.proofs.Orders.{has, IsBest, best}
use Rattle.peer_list.proofs.DueLemmas.{whose, known_of_ls, Knows, knows, all_both, filter_twice, waits_at, due_pair, first_due_is, count_is}
use Rattle.peer_list.proofs.FirstLemmas.{all_pass, waits_of, nobody_waits, first_is_none}
use Rattle.peer_list.proofs.OverdueLemmas.{moment_of_first, not_less}
use Rattle.peer_list.proofs.Lists.{all_kept}

-- none of these is due before the bound
among_no_sooner : (f : Ip6 → Peer) (bound : ℕ) (ks : List Listing) → Knows f ks → AllByRecursion (λ (l : Listing). bound ≤ due_of l.peer) ks → (q : Ip6) → has q (whose ks) ≡ true → bound ≤ due_of (f q)
among_no_sooner f bound [] k a q h = absurd (false≢true h)
among_no_sooner f bound (x ∷ ks) k a q h = by_test (same_ip6 q x.who) refl h (among_no_sooner f bound ks k.1 a.1 q) where
  by_test : (b : Bool) → same_ip6 q x.who ≡ b → (b || has q (whose ks)) ≡ true → (has q (whose ks) ≡ true → bound ≤ due_of (f q)) → bound ≤ due_of (f q)
  by_test true is h' rest = subst (λ (y : Peer). bound ≤ due_of y) (sym (ap f (same_ip6-true q x.who is) ∙ k.0)) a.0
  by_test false is h' rest = rest h'

best_no_sooner : (f : Ip6 → Peer) (bound : ℕ) (ks : List Listing) (o : Option Ip6) → Knows f ks → AllByRecursion (λ (l : Listing). bound ≤ due_of l.peer) ks → IsBest f (whose ks) o
    → IsNoSooner bound (option_map (λ (x : Millis × Ip6). x.0.0) (option_map (due_pair f) o))
best_no_sooner f bound ks None k a b = tt
best_no_sooner f bound ks (Some p) k a b = among_no_sooner f bound ks k a p b.0

pub no_sooner : (n bound : ℕ) (ls : List Listing) (first : Millis × Ip6) → AreApart ls → NoneBefore (Some first) ls → bound ≤ first.0.0 → IsNoSooner bound (option_map due_moment (first_due_in (table n ls) n))
no_sooner n bound ls first a none le =
    let f : Ip6 → Peer = known_of_ls ls n in
    let ks : List Listing = filter (waits_at n) ls in
    let known : Knows f ks = subst (Knows f) (filter_twice n ls) (all_kept (λ (l : Listing). f l.who ≡ l.peer) (λ (l : Listing). not (is_none l.peer.waiting)) (filter (is_listed_at n) ls) (knows n ls a)) in
    let late : AllByRecursion (λ (l : Listing). bound ≤ due_of l.peer) ks =
    all_both (λ l. waits_at n l ≡ true) (IsNotBefore (Some first)) (λ l. bound ≤ due_of l.peer) ks (λ l p q. let later = not_less (due_of l.peer) first.0.0 (cmp_ip6 l.who first.1) (q (waits_of n l p)) in omega (arith, le, later))
    (all_pass (waits_at n) ls) (all_kept (IsNotBefore (Some first)) (waits_at n) ls none) in
    let is : option_map (λ (x : Millis × Ip6). x.0.0) (option_map (due_pair f) (least_by_due f (whose ks))) ≡ option_map due_moment (first_due_in (table n ls) n) =
    ap (option_map (λ (x : Millis × Ip6). x.0.0)) (sym (first_due_is n n ls a)) ∙ moment_of_first (first_due_in (table n ls) n) in
    subst (IsNoSooner bound) is (best_no_sooner f bound ks (least_by_due f (whose ks)) known late (best f (whose ks)))

-- where no packet waits nothing is due
pub no_first : (n bound : ℕ) (ls : List Listing) → AreApart ls → NoneBefore None ls → IsNoSooner bound (option_map due_moment (first_due_in (table n ls) n))
no_first n bound ls a none =
    let is : None ≡ option_map due_moment (first_due_in (table n ls) n) = ap (option_map (λ (x : Millis × Ip6). x.0.0)) (first_is_none n ls a (nobody_waits n ls none)) ∙ moment_of_first (first_due_in (table n ls) n) in
    subst (IsNoSooner bound) is tt

-- THERE IS ROOM WHERE THE TABLE ISN'T FULL

pub roomy : (m n : ℕ) (p : Ip6) (ls : List Listing) → AreApart ls → length ls < PEERS_MAX → has_room_in (table m ls) n p ≡ true
unfolding has_room_in
roomy m n p ls a few =
    let listed : length (listed_in (table m ls) n) ≡ length (filter (is_listed_at n) ls) = count_is m n ls a in
    let parts = length-filter_both (is_listed_at n) (λ l. not (is_listed_at n l)) (λ l. refl) ls in
    or_right (is_some (peer_in (table m ls) n p)) (nat_lt (length (listed_in (table m ls) n)) PEERS_MAX) (lt-ltb _ _ (omega (arith, listed, parts, few)))
