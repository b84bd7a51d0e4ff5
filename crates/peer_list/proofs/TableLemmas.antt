-- What a table says of an address, and how its listings say it.
use Rattle.peer_list.proofs.Words.{Bool, Err, FoundIsListed, Ip6, IsDistinct, Keeps, KnowsStill, KnowsThen, LISTED_MS, List, Listing, None, Ok, OnErr, OnOk, Option, Peer, Result, Some, Table, TouchGoesOn, TouchedIsListed, UpdateIsSeen, Updates, UpdatesTwice, [], addresses, any-filter_same, ap, arith, cond, cond_some, false, false≢true, find, first_due_in, has_room_in, is_of, is_some, is_within, is_younger, known_to, length, list_any, listed_in, lt-ltb, ltb-true, no_peer, peer_in, peer_listed, refl, same_ip6, same_ip6-self, same_ip6-true, sym, table, table_after, true, unwrap_or, waiting_in, while_listed, with_peer, ℕ, ◌-◌, ◌<◌, ◌∙◌, ◌∷◌, ◌≡◌, ◌≤◌}
use Rattle.peer_list.proofs.Lists.{still, now_too, once_with, once_kept, narrowed}

-- TIME

-- what is younger later is younger before
pub within_before : (m n : ℕ) (o : Option ℕ) → m ≤ n → is_within LISTED_MS n o ≡ true → is_within LISTED_MS m o ≡ true
within_before m n None l h = h
within_before m n (Some k) l h = let less : n - k < LISTED_MS = ltb-true _ _ h in lt-ltb _ _ (omega arith)

pub within_after : (m n : ℕ) (o : Option ℕ) → m ≤ n → is_within LISTED_MS m o ≡ false → is_within LISTED_MS n o ≡ false
within_after m n o l h = by_test (is_within LISTED_MS n o) refl where
  by_test : (b : Bool) → is_within LISTED_MS n o ≡ b → is_within LISTED_MS n o ≡ false
  by_test false e = e
  by_test true e = absurd (false≢true (sym h ∙ within_before m n o l e))

pub young_now : (m : ℕ) → is_younger LISTED_MS m m ≡ true
young_now m = lt-ltb _ _ (omega arith)

pub touched_is_listed : TouchedIsListed
touched_is_listed m peer touched = let young = young_now m in rw (touched, young) refl

-- WHAT IS KNOWN

pub listed_while : (n : ℕ) (peer : Peer) → is_some (while_listed n peer) ≡ true → while_listed n peer ≡ Some peer
listed_while n peer h = by_test (is_within LISTED_MS n peer.touched) h where
  by_test : (b : Bool) → is_some (cond b (Some peer) None) ≡ true → cond b (Some peer) None ≡ Some peer
  by_test true k = refl
  by_test false k = absurd (false≢true k)

-- so it was touched within the time
pub within_of : (n : ℕ) (peer : Peer) → while_listed n peer ≡ Some peer → is_within LISTED_MS n peer.touched ≡ true
within_of n peer h = (cond_some (is_within LISTED_MS n peer.touched) peer peer h).0

found_listed : (n : ℕ) (o : Option Listing) → is_some (peer_listed n o) ≡ true → while_listed n (unwrap_or (peer_listed n o) no_peer) ≡ Some (unwrap_or (peer_listed n o) no_peer)
found_listed n None h = absurd (false≢true h)
found_listed n (Some l) h = let e = listed_while n l.peer h in rw e e

pub found_is_listed : FoundIsListed
unfolding peer_in
found_is_listed t n who h = found_listed n (find (is_of who) t.listings) h

pub update_is_seen : UpdateIsSeen
update_is_seen old new m who peer l u =
    let same = same_ip6-self who in
    let seen : peer_in new m who ≡ Some peer = u.view m who (omega arith) ∙ ap (λ b. cond b (while_listed m peer) (peer_in old m who)) same ∙ l in
    (seen, ap (λ o. unwrap_or o no_peer) seen)

twice_by : (b : Bool) (x y z : Option Peer) → cond b x (cond b y z) ≡ cond b x z
twice_by true x y z = refl
twice_by false x y z = refl

pub updates_twice : UpdatesTwice
updates_twice a b c m who first next l u v = record {
  moment = v.moment;
  latest = v.latest;
  view = λ n p k.
      let known : known_to b m who ≡ first = (update_is_seen a b m who first l u).1 in
      v.view n p k
      ∙ ap (λ (x : Peer). cond (same_ip6 p who) (while_listed n (next x)) (peer_in b n p)) known
      ∙ ap (λ o. cond (same_ip6 p who) (while_listed n (next first)) o) (u.view n p k)
      ∙ twice_by (same_ip6 p who) (while_listed n (next first)) (while_listed n first) (peer_in a n p);
}

pub touch_goes_on : TouchGoesOn
touch_goes_on old mid m who peer touched u =
    let stays = touched_is_listed m peer touched in
    let seen = update_is_seen old mid m who peer stays u in
    record { listed = ap is_some seen.0; known = seen.1; next = λ new call v. updates_twice old mid new m who peer call stays u v }

-- WHO IS LISTED

found_has : (p : Ip6) (n : ℕ) (ls : List Listing) → is_some (peer_listed n (find (is_of p) ls)) ≡ true → list_any (same_ip6 p) (addresses ls) ≡ true
found_has p n [] h = absurd (false≢true h)
found_has p n (l ∷ ls) h = by_test (same_ip6 p l.who) refl h (found_has p n ls) where
  by_test : (b : Bool) → same_ip6 p l.who ≡ b → is_some (peer_listed n (cond b (Some l) (find (is_of p) ls))) ≡ true
      → (is_some (peer_listed n (find (is_of p) ls)) ≡ true → list_any (same_ip6 p) (addresses ls) ≡ true)
      → list_any (same_ip6 p) (with_peer (Some l.who) (addresses ls)) ≡ true
  by_test true e k rest = now_too p (Some l.who) true (addresses ls) e refl
  by_test false e k rest = still p (Some l.who) (addresses ls) (rest k)

-- exactly those of which something is known
pub members : (t : Table) (n : ℕ) (p : Ip6) → list_any (same_ip6 p) (listed_in t n) ≡ is_some (peer_in t n p)
unfolding listed_in peer_in
members t n p =
    let test : Ip6 → Bool = λ q. is_some (peer_listed n (find (is_of q) t.listings)) in
    any-filter_same (same_ip6 p) test (test p) (λ q is. ap test (sym (same_ip6-true p q is))) (addresses t.listings)
    ∙ narrowed (test p) (list_any (same_ip6 p) (addresses t.listings)) (found_has p n t.listings)

addresses_once : (ls : List Listing) → IsDistinct same_ip6 (addresses ls)
unfolding IsDistinct
addresses_once [] = tt
addresses_once (l ∷ ls) = once_with (Some l.who) (addresses ls) (addresses_once ls)

-- each once
pub members_once : (t : Table) (n : ℕ) → IsDistinct same_ip6 (listed_in t n)
unfolding listed_in
members_once t n = once_kept (λ p. is_some (peer_in t n p)) (addresses t.listings) (addresses_once t.listings)

-- WHAT DEPENDS ON NO MOMENT OF A TABLE, AND NOT ON WHOM THE LATEST CALL CHANGED

pub other_peer : (m k : ℕ) (last : Option Ip6) (n : ℕ) (p : Ip6) (ls : List Listing) → peer_in (table m ls) n p ≡ peer_in (table_after k last ls) n p
unfolding peer_in
other_peer m k last n p ls = refl

pub other_room : (m k : ℕ) (last : Option Ip6) (n : ℕ) (p : Ip6) (ls : List Listing) → has_room_in (table m ls) n p ≡ has_room_in (table_after k last ls) n p
unfolding has_room_in listed_in peer_in
other_room m k last n p ls = refl

pub other_count : (m k : ℕ) (last : Option Ip6) (n : ℕ) (ls : List Listing) → length (listed_in (table m ls) n) ≡ length (listed_in (table_after k last ls) n)
unfolding listed_in peer_in
other_count m k last n ls = refl

pub other_waiting : (m k : ℕ) (last : Option Ip6) (n : ℕ) (ls : List Listing) → waiting_in (table m ls) n ≡ waiting_in (table_after k last ls) n
unfolding listed_in peer_in
other_waiting m k last n ls = refl

pub other_first : (m k : ℕ) (last : Option Ip6) (n : ℕ) (ls : List Listing) → first_due_in (table m ls) n ≡ first_due_in (table_after k last ls) n
unfolding listed_in peer_in
other_first m k last n ls = refl

-- A CALL THAT MAY BE REFUSED

-- between two tables at m, the first of which was one at k, with these listings
module _ {A E : Type 0} (m k : ℕ) (last next : Option Ip6) (ls more : List Listing) where
  pub other_keeps : (r : Result A E) → OnErr r (KnowsStill (table m ls) (table m more) m) → OnErr r (next ≡ last) → OnErr r (Keeps (table_after k last ls) (table_after m next more) m)
  unfolding peer_in
  other_keeps (Ok done) h same = tt
  other_keeps (Err e) h same = record { moment = h.moment; view = h.view; latest = same }

  pub other_updates : (who : Ip6) (f : Peer → Peer) (r : Result A E) → OnOk r (KnowsThen (table m ls) (table m more) m who (f (known_to (table m ls) m who))) → OnOk r (next ≡ Some who)
      → OnOk r (Updates (table_after k last ls) (table_after m next more) m who (f (known_to (table_after k last ls) m who)))
  unfolding peer_in
  other_updates who f (Ok done) h is = record { moment = h.moment; view = h.view; latest = is }
  other_updates who f (Err e) h is = tt
