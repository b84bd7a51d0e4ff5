-- A call on one entry, whose key is settled then: what the call needs, and what it leaves.
use Rattle.peer_list.proofs.Words.{AreInTurn, AreKept, AreTimely, AreWhole, AreWholeBut, Change, Entries, GiveUp, Hear, Ip6, IsAfter, IsKeptTimely, IsSince, IsTimely, KnowsStill, KnowsThen, Listing, Millis, None, OnErr, OnOk, Option, Peer, Result, Some, Table, Touch, Trust, TrustAndHear, Try, Updates, ap, arith, changed_at, entry_due, false≢true, find, get, is_of, is_some, key_of, known_to, listings_of, option_map, peer_in, refl, subst, sym, table, table_after, true, unwrap_or, with_peer_at, with_value, ℕ, ◌∙◌, ◌≡◌, ◌≤◌}
use Rattle.peer_list.proofs.ListingLemmas.{has_listing, known_there}
use Rattle.peer_list.proofs.TimelyLemmas.{timely_updated, timely_after, timely_later, timely_answered}
use Rattle.peer_list.proofs.ChangeLemmas.{known_at, whole_but, turn_still, kept_after, updates_after, since_touched}

-- BEFORE THE KEY IS SETTLED

abbrev pub with_peer : Entries → ℕ → Listing → Peer → Entries
with_peer e key l peer = record e { slab = with_value e.slab key (with_peer_at l peer) }

pub is_after : (e : Entries) {key : ℕ} {l : Listing} (peer : Peer) → get e.slab key ≡ Some l → IsAfter e (with_peer e key l peer) key l peer
is_after e peer was = record { was = was; slab = refl; index = refl; touched = refl }

pub but_one : {e : Entries} (key : ℕ) (l : Listing) (peer : Peer) (before : Option (Millis × Ip6)) → AreWhole e → get e.slab key ≡ Some l
    → before ≡ entry_due (get e.slab key) → AreWholeBut (with_peer e key l peer) key before
but_one {e} key l peer before w was is = whole_but (is_after e peer was) before is refl w

pub in_turn_still : {e : Entries} (key : ℕ) (l : Listing) (peer : Peer) (before : Option (Millis × Ip6)) → AreWhole e → get e.slab key ≡ Some l → before ≡ entry_due (get e.slab key)
    → entry_due (get (with_peer e key l peer).slab key) ≡ before → AreInTurn (with_peer e key l peer).slab e.order.items
in_turn_still {e} key l peer before w was is now = turn_still (is_after e peer was) before is now refl w

-- AND AFTER

pub is_settled : (e new : Entries) (key : ℕ) (l : Listing) (peer : Peer) → get e.slab key ≡ Some l → new.slab ≡ with_value e.slab key (with_peer_at l peer) → new.index ≡ e.index → new.touched ≡ e.touched → IsAfter e new key l peer
is_settled e new key l peer was slab index touched = record { was = was; slab = slab; index = index; touched = touched }

-- by a call that touches
pub kept_touched : {e new : Entries} {k n key : ℕ} {l : Listing} {peer : Peer} → AreKept e k → k ≤ n → AreWhole new → IsAfter e new key l peer → peer.touched ≡ Some n → AreKept new n
kept_touched {e} {new} {k} {n} {key} {l} {peer} kept later w a touched = kept_after a k n kept later w (since_touched e k n peer kept later touched)

-- by one that doesn't
pub kept_untouched : {e new : Entries} {k n key : ℕ} {l : Listing} {peer : Peer} → AreKept e k → k ≤ n → AreWhole new → IsAfter e new key l peer → peer.touched ≡ l.peer.touched → AreKept new n
kept_untouched {e} {new} {k} {n} {key} {l} {peer} kept later w a same = kept_after a k n kept later w (subst (IsSince e.touched.0) (sym same) (kept.touched key l a.was))

-- by each change
changed_since : {e : Entries} {n : ℕ} (key : ℕ) {l : Listing} (change : Change) → AreKept e n → get e.slab key ≡ Some l → IsSince e.touched.0 (changed_at n change l.peer).touched
changed_since key Touch kept was = kept.past
changed_since key (Trust at) kept was = kept.past
changed_since key Hear kept was = kept.past
changed_since key (TrustAndHear at) kept was = kept.past
changed_since key (Try test) kept was = kept.past
changed_since {e} {n} key {l} GiveUp kept was = kept.touched key l was

pub kept_changed : {e new : Entries} {n key : ℕ} {l : Listing} {peer : Peer} (change : Change) → AreKept e n → AreWhole new → IsAfter e new key l peer → peer ≡ changed_at n change l.peer → AreKept new n
kept_changed {e} {new} {n} {key} {l} {peer} change kept w a is =
    kept_after a n n kept (omega arith) w (subst (λ (p : Peer). IsSince e.touched.0 p.touched) (sym is) (changed_since key change kept a.was))

-- time alone
pub kept_later : {e : Entries} {k n : ℕ} → AreKept e k → k ≤ n → AreKept e n
kept_later kept later = record { whole = kept.whole; touched = kept.touched; past = let past = kept.past in omega (arith, past, later) }

-- THE TABLE

pub earlier : (e : Entries) (k n : ℕ) (v : Table) {last : Option Ip6} → table_after k last (listings_of e) ≡ v → v.moment ≤ n → k ≤ n
earlier e k n v is clock = subst (λ (t : Table). t.moment ≤ n) (sym is) clock

-- a table before a call at n on a listed peer
module _ (e : Entries) {k : ℕ} (n : ℕ) (who : Ip6) {last : Option Ip6} {v : Table} (is : table_after k last (listings_of e) ≡ v) where
  seen : is_some (peer_in v n who) ≡ true → is_some (peer_in (table_after k last (listings_of e)) n who) ≡ true
  seen listed = subst (λ (t : Table). is_some (peer_in t n who) ≡ true) (sym is) listed

  pub there : is_some (peer_in v n who) ≡ true → is_some (find (is_of who) (listings_of e)) ≡ true
  there listed = has_listing (table_after k last (listings_of e)) n who (seen listed)

  pub known_is : (key : ℕ) (l : Listing) → AreWhole e → is_some (peer_in v n who) ≡ true → key_of e who ≡ Some key → get e.slab key ≡ Some l → known_to v n who ≡ l.peer
  known_is key l w listed found was = ap (λ (t : Table). known_to t n who) (sym is) ∙ known_at e k n last who key l w found was (seen listed)

  known_by : (o : Option Listing) (peer : Peer) → find (is_of who) (listings_of e) ≡ o → option_map (λ (l : Listing). l.peer) o ≡ Some peer → is_some (peer_in v n who) ≡ true → known_to v n who ≡ peer
  known_by None peer found some listed = absurd (false≢true (ap is_some some))
  known_by (Some l) peer found some listed = ap (λ (t : Table). known_to t n who) (sym is) ∙ known_there (table_after k last (listings_of e)) n who l found (seen listed) ∙ ap (λ (o : Option Peer). unwrap_or o peer) some

  -- whoever is found is known
  pub known_found : (peer : Peer) → option_map (λ (l : Listing). l.peer) (find (is_of who) (listings_of e)) ≡ Some peer → is_some (peer_in v n who) ≡ true → known_to v n who ≡ peer
  known_found peer some listed = known_by (find (is_of who) (listings_of e)) peer refl some listed

  -- what is known of the peer is what the call makes of it
  known_by_call : (next : Option Ip6) (new : Entries) {key : ℕ} {l : Listing} (call : Peer → Peer) → AreWhole e → is_some (peer_in v n who) ≡ true → key_of e who ≡ Some key → IsAfter e new key l (call l.peer)
      → KnowsThen v (table_after n next (listings_of new)) n who (call (known_to v n who))
  known_by_call next new {key} {l} call w listed found a =
      subst (λ (p : Peer). KnowsThen v (table_after n next (listings_of new)) n who p) (ap call (sym (known_is key l w listed found a.was)))
      (subst (λ (t : Table). KnowsThen t (table_after n next (listings_of new)) n who (call l.peer)) is (updates_after a k n last next who w found))

  -- and it is the peer that the call changed
  pub updates_by_call : (new : Entries) {key : ℕ} {l : Listing} (call : Peer → Peer) → AreWhole e → is_some (peer_in v n who) ≡ true → key_of e who ≡ Some key → IsAfter e new key l (call l.peer)
      → Updates v (table_after n (Some who) (listings_of new)) n who (call (known_to v n who))
  updates_by_call new call w listed found a =
      let known = known_by_call (Some who) new call w listed found a in
      record { moment = known.moment; view = known.view; latest = refl }

  -- and it is due while it is listed
  pub held_by_call : (new : Entries) {key : ℕ} {l : Listing} (call : Peer → Peer) → IsKeptTimely e k → v.moment ≤ n → is_some (peer_in v n who) ≡ true → key_of e who ≡ Some key → IsAfter e new key l (call l.peer)
      → AreKept new n → (AreTimely v → v.moment ≤ n → IsTimely n (call (known_to v n who))) → IsKeptTimely new n
  held_by_call new call held clock listed found a kept so =
      let before : AreTimely v = subst AreTimely is (timely_after k last (listings_of e) held.timely) in
      record { kept = kept; timely = timely_updated v (table n (listings_of new)) n who (call (known_to v n who)) before clock (so before clock) (known_by_call None new call held.kept.whole listed found a) }

-- a call that may be refused
pub held_answered : {A E : Type 0} (e new : Entries) (k n : ℕ) (who : Ip6) (call : Peer → Peer) (r : Result A E) → IsKeptTimely e k → k ≤ n → AreKept new n
    → (AreTimely (table n (listings_of e)) → IsTimely n (call (known_to (table n (listings_of e)) n who)))
    → OnOk r (KnowsThen (table n (listings_of e)) (table n (listings_of new)) n who (call (known_to (table n (listings_of e)) n who)))
    → OnErr r (KnowsStill (table n (listings_of e)) (table n (listings_of new)) n) → IsKeptTimely new n
held_answered e new k n who call r held later kept so done refused =
    let old : Table = table n (listings_of e) in
    let before : AreTimely old = timely_later k n (listings_of e) later held.timely in
    record { kept = kept; timely = timely_answered old (table n (listings_of new)) n who (call (known_to old n who)) r before (omega arith) (so before) done refused }
