-- The listings of a table, one by one: what is taken out, and what a change of one makes of the table.
use Rattle.peer_list.proofs.Words.{AllByRecursion, AreApart, Bool, Ip6, KnowsStill, KnowsThen, LISTED_MS, List, Listing, None, Option, Peer, Some, Table, [], ap, arith, cond, false, false≢true, filter, find, get_or, is_listed_at, is_of, is_some, is_within, known_to, length, no_peer, option_map, peer_in, peer_listed, refl, same_ip6, same_ip6-true, suc, sym, table, true, unwrap_or, while_listed, zero, ℕ, ◌<◌, ◌∙◌, ◌∷◌, ◌≡◌, ◌≤◌}
use Rattle.peer_list.proofs.TableLemmas.{within_after, listed_while}
use Rattle.peer_list.proofs.Lists.{all_kept}

-- OF AN ADDRESS WITH A LISTING THERE IS NO OTHER

none_of : (p q : Ip6) (ls : List Listing) → same_ip6 p q ≡ true → AllByRecursion (λ (o : Listing). same_ip6 q o.who ≡ false) ls → find (is_of p) ls ≡ None
none_of p q [] is a = refl
none_of p q (l ∷ ls) is a =
    let other : same_ip6 p l.who ≡ false = ap (λ x. same_ip6 x l.who) (same_ip6-true p q is) ∙ a.0 in
    ap (λ b. cond b (Some l) (find (is_of p) ls)) other ∙ none_of p q ls is a.1

-- TAKING OUT WHAT ISN'T LISTED

-- at the moment m or later
purged_at : (m n : ℕ) (p : Ip6) (ls : List Listing) → m ≤ n → AreApart ls → peer_listed n (find (is_of p) (filter (is_listed_at m) ls)) ≡ peer_listed n (find (is_of p) ls)
purged_at m n p [] k a = refl
purged_at m n p (l ∷ ls) k a = by_test (is_listed_at m l) (same_ip6 p l.who) refl refl (purged_at m n p ls k a.1) where
  by_test : (y b : Bool) → is_listed_at m l ≡ y → same_ip6 p l.who ≡ b → peer_listed n (find (is_of p) (filter (is_listed_at m) ls)) ≡ peer_listed n (find (is_of p) ls)
      → peer_listed n (find (is_of p) (cond y (l ∷ filter (is_listed_at m) ls) (filter (is_listed_at m) ls))) ≡ peer_listed n (cond b (Some l) (find (is_of p) ls))
  by_test true true young is rest = ap (λ c. peer_listed n (cond c (Some l) (find (is_of p) (filter (is_listed_at m) ls)))) is
  by_test true false young is rest = ap (λ c. peer_listed n (cond c (Some l) (find (is_of p) (filter (is_listed_at m) ls)))) is ∙ rest
  by_test false false old is rest = rest
  by_test false true old is rest =
      let none : find (is_of p) (filter (is_listed_at m) ls) ≡ None = none_of p l.who (filter (is_listed_at m) ls) is (all_kept (λ (o : Listing). same_ip6 l.who o.who ≡ false) (is_listed_at m) ls a.0) in
      let late : is_within LISTED_MS n l.peer.touched ≡ false = within_after m n l.peer.touched k old in
      ap (peer_listed n) none ∙ sym (ap (λ c. cond c (Some l.peer) None) late)

shorter : (test : Listing → Bool) (ls : List Listing) → length (filter test ls) ≤ length ls
shorter test [] = omega arith
shorter test (l ∷ ls) = by_test (test l) (shorter test ls) where
  by_test : (b : Bool) → length (filter test ls) ≤ length ls → length (cond b (l ∷ filter test ls) (filter test ls)) ≤ length (l ∷ ls)
  by_test true h = omega arith
  by_test false h = omega arith

-- from m on the same is known
pub purged : (m : ℕ) (ls : List Listing) → AreApart ls → KnowsStill (table m ls) (table m (filter (is_listed_at m) ls)) m
unfolding peer_in
purged m ls a = record { moment = refl; view = λ n p k. purged_at m n p ls k a }

-- ONE BY ONE

pub all_at : {A : Type 0} (P : A → Type 0) (ls : List A) (i : ℕ) (d : A) → i < length ls → AllByRecursion P ls → P (get_or ls i d)
all_at P [] i d k a = absurd (omega arith)
all_at P (x ∷ ls) zero d k a = a.0
all_at P (x ∷ ls) (suc i) d k a = all_at P ls i d (omega arith) a.1

-- WHAT IS FOUND

pub nowhere : (t : Table) (n : ℕ) (who : Ip6) → find (is_of who) t.listings ≡ None → None ≡ peer_in t n who
unfolding peer_in
nowhere t n who none = sym (ap (peer_listed n) none)

pub somewhere : (t : Table) (n : ℕ) (who : Ip6) (l : Listing) → find (is_of who) t.listings ≡ Some l → while_listed n l.peer ≡ peer_in t n who
unfolding peer_in
somewhere t n who l there = sym (ap (peer_listed n) there)

-- the same of the peer of what is found
pub nobody : (t : Table) (n : ℕ) (who : Ip6) → option_map (λ (l : Listing). l.peer) (find (is_of who) t.listings) ≡ None → None ≡ peer_in t n who
unfolding peer_in
nobody t n who none = by_find (find (is_of who) t.listings) none where
  by_find : (o : Option Listing) → option_map (λ (l : Listing). l.peer) o ≡ None → None ≡ peer_listed n o
  by_find None h = refl
  by_find (Some l) h = absurd (false≢true (sym (ap is_some h)))

pub somebody : (t : Table) (n : ℕ) (who : Ip6) (peer : Peer) → option_map (λ (l : Listing). l.peer) (find (is_of who) t.listings) ≡ Some peer → while_listed n peer ≡ peer_in t n who
unfolding peer_in
somebody t n who peer some = by_find (find (is_of who) t.listings) some where
  by_find : (o : Option Listing) → option_map (λ (l : Listing). l.peer) o ≡ Some peer → while_listed n peer ≡ peer_listed n o
  by_find None h = absurd (false≢true (ap is_some h))
  by_find (Some l) h = sym (ap (λ (p : Option Peer). while_listed n (unwrap_or p peer)) h)

-- an address that is listed has a listing
pub has_listing : (t : Table) (n : ℕ) (who : Ip6) → is_some (peer_in t n who) ≡ true → is_some (find (is_of who) t.listings) ≡ true
unfolding peer_in
has_listing t n who listed = by_find (find (is_of who) t.listings) listed where
  by_find : (o : Option Listing) → is_some (peer_listed n o) ≡ true → is_some o ≡ true
  by_find None h = h
  by_find (Some l) h = refl

pub known_there : (t : Table) (n : ℕ) (who : Ip6) (l : Listing) → find (is_of who) t.listings ≡ Some l → is_some (peer_in t n who) ≡ true → known_to t n who ≡ l.peer
unfolding peer_in
known_there t n who l there listed =
    let some : is_some (while_listed n l.peer) ≡ true = sym (ap (λ o. is_some (peer_listed n o)) there) ∙ listed in
    ap (λ o. unwrap_or (peer_listed n o) no_peer) there ∙ ap (λ o. unwrap_or o no_peer) (listed_while n l.peer some)

-- A CHANGE

-- one address has another listing, or a first one, and each other has its own
pub updates_by : (old new : Table) (m : ℕ) (who : Ip6) (l : Listing) → new.moment ≡ m → ((p : Ip6) → find (is_of p) new.listings ≡ cond (same_ip6 p who) (Some l) (find (is_of p) old.listings)) → KnowsThen old new m who l.peer
unfolding peer_in
updates_by old new m who l moment is = record {
  moment = moment;
  view = λ n p k. ap (peer_listed n) (is p) ∙ by_test n p (same_ip6 p who);
} where
  by_test : (n : ℕ) (p : Ip6) (b : Bool) → peer_listed n (cond b (Some l) (find (is_of p) old.listings)) ≡ cond b (while_listed n l.peer) (peer_listed n (find (is_of p) old.listings))
  by_test n p true = refl
  by_test n p false = refl
