-- What a call that lists a peer finds once it has taken out whoever isn't listed any more.
use Rattle.peer_list.proofs.Words.{AllByRecursion, AreApart, Bool, Ip6, KnowsStill, KnowsThen, List, Listing, None, Option, PEERS_MAX, Peer, Some, Table, [], ap, arith, cond, false, false≢true, filter, find, has_room_in, holds_most, is_full, is_listed_at, is_of, is_some, known_to, length, listed_in, nat_lt, no_peer, peer_in, peer_listed, refl, same_ip6, subst, sym, table, touched_at, true, unwrap_or, while_listed, ℕ, ◌||◌, ◌∙◌, ◌∷◌, ◌≡◌}
use Rattle.peer_list.proofs.DueLemmas.{count_is}
use Rattle.peer_list.proofs.ListingLemmas.{purged, known_there, updates_by}

-- `kept` are those of ls that are listed at m
pub record Purged (m : ℕ) (ls kept : List Listing) : Type 0 where
  pub apart : AreApart ls
  pub is : kept ≡ filter (is_listed_at m) ls

pub keeps_purged : (m : ℕ) (ls kept : List Listing) → Purged m ls kept → KnowsStill (table m ls) (table m kept) m
keeps_purged m ls kept p = subst (λ ks. KnowsStill (table m ls) (table m ks) m) (sym p.is) (purged m ls p.apart)

peer_purged : (m : ℕ) (ls kept : List Listing) (who : Ip6) → Purged m ls kept → peer_in (table m kept) m who ≡ peer_in (table m ls) m who
peer_purged m ls kept who p = (keeps_purged m ls kept p).view m who (omega arith)

known_purged : (m : ℕ) (ls kept : List Listing) (who : Ip6) → Purged m ls kept → known_to (table m kept) m who ≡ known_to (table m ls) m who
known_purged m ls kept who p = ap (λ o. unwrap_or o no_peer) (peer_purged m ls kept who p)

all_listed : (m : ℕ) (ls : List Listing) → AllByRecursion (λ (l : Listing). is_listed_at m l ≡ true) (filter (is_listed_at m) ls)
all_listed m [] = tt
all_listed m (l ∷ ls) = by_test (is_listed_at m l) refl (all_listed m ls) where
  by_test : (b : Bool) → is_listed_at m l ≡ b → AllByRecursion (λ (x : Listing). is_listed_at m x ≡ true) (filter (is_listed_at m) ls)
      → AllByRecursion (λ (x : Listing). is_listed_at m x ≡ true) (cond b (l ∷ filter (is_listed_at m) ls) (filter (is_listed_at m) ls))
  by_test true h rest = (h, rest)
  by_test false h rest = rest

-- WHO IS FOUND

found_passes : (test : Listing → Bool) (p : Listing → Bool) (ls : List Listing) (l : Listing) → AllByRecursion (λ (x : Listing). test x ≡ true) ls → find p ls ≡ Some l → test l ≡ true
found_passes test p [] l a h = absurd (false≢true (ap is_some h))
found_passes test p (x ∷ ls) l a h = by_test (p x) h (found_passes test p ls l a.1) where
  by_test : (b : Bool) → cond b (Some x) (find p ls) ≡ Some l → (find p ls ≡ Some l → test l ≡ true) → test l ≡ true
  by_test true e rest = ap test (sym (ap (λ (o : Option Listing). unwrap_or o x) e)) ∙ a.0
  by_test false e rest = rest e

pub there : (m : ℕ) (ls kept : List Listing) (who : Ip6) (l : Listing) → Purged m ls kept → find (is_of who) kept ≡ Some l → is_some (peer_in (table m kept) m who) ≡ true
unfolding peer_in
there m ls kept who l p at =
    let all : AllByRecursion (λ (x : Listing). is_listed_at m x ≡ true) kept = subst (AllByRecursion (λ (x : Listing). is_listed_at m x ≡ true)) (sym p.is) (all_listed m ls) in
    let listed : is_listed_at m l ≡ true = found_passes (is_listed_at m) (is_of who) kept l all at in
    ap (λ o. is_some (peer_listed m o)) at ∙ ap (λ b. is_some (cond b (Some l.peer) None)) listed

pub was_there : (m : ℕ) (ls kept : List Listing) (who : Ip6) (l : Listing) → Purged m ls kept → find (is_of who) kept ≡ Some l → known_to (table m ls) m who ≡ l.peer
was_there m ls kept who l p at = sym (known_purged m ls kept who p) ∙ known_there (table m kept) m who l at (there m ls kept who l p at)

pub was_nowhere : (m : ℕ) (ls kept : List Listing) (who : Ip6) → Purged m ls kept → find (is_of who) kept ≡ None → peer_in (table m ls) m who ≡ None
unfolding peer_in
was_nowhere m ls kept who p none = sym (peer_purged m ls kept who p) ∙ ap (peer_listed m) none

pub room_nowhere : (m : ℕ) (ls kept : List Listing) (who : Ip6) → Purged m ls kept → find (is_of who) kept ≡ None → has_room_in (table m ls) m who ≡ nat_lt (length kept) PEERS_MAX
unfolding has_room_in
room_nowhere m ls kept who p none =
    ap (λ (o : Option Peer). is_some o || nat_lt (length (listed_in (table m ls) m)) PEERS_MAX) (was_nowhere m ls kept who p none)
    ∙ ap (λ n. nat_lt n PEERS_MAX) (count_is m m ls p.apart ∙ ap length (sym p.is))

-- WHAT IS LEFT

then_updates : (a b c : Table) (m : ℕ) (who : Ip6) (peer : Peer) → KnowsStill a b m → KnowsThen b c m who peer → KnowsThen a c m who peer
then_updates a b c m who peer k u = record { moment = u.moment; view = λ n p l. u.view n p l ∙ ap (λ o. cond (same_ip6 p who) (while_listed n peer) o) (k.view n p l) }

-- one address has a listing of its own, or another one
pub updates_purged : (m : ℕ) (ls kept items : List Listing) (who : Ip6) (l : Listing) → Purged m ls kept → ((p : Ip6) → find (is_of p) items ≡ cond (same_ip6 p who) (Some l) (find (is_of p) kept))
    → KnowsThen (table m ls) (table m items) m who l.peer
updates_purged m ls kept items who l p is =
    then_updates (table m ls) (table m kept) (table m items) m who l.peer (keeps_purged m ls kept p) (updates_by (table m kept) (table m items) m who l refl is)

pub keeps_same : (m : ℕ) (ls kept items : List Listing) → Purged m ls kept → items ≡ kept → KnowsStill (table m ls) (table m items) m
keeps_same m ls kept items p is = subst (λ ks. KnowsStill (table m ls) (table m ks) m) (sym is) (keeps_purged m ls kept p)

-- A PEER THAT IS NEW HAS ROOM

pub new_free : (m : ℕ) → is_full (touched_at m no_peer) ≡ false
unfolding is_full
new_free m = refl

pub new_holds_none : (m : ℕ) → holds_most (touched_at m no_peer) ≡ false
unfolding holds_most
new_holds_none m = refl
