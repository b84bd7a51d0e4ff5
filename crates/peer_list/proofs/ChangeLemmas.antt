-- What a call on one entry leaves: what stays true, and what each address finds.
use Rattle.peer_list.proofs.Words.{AreInTurn, AreKept, AreWhole, AreWholeBut, ContainsKey, Entries, Ip6, IsAfter, IsSince, KnowsThen, Listing, Millis, NameEachOther, None, Option, Peer, Slab, Some, Updates-with_value, ap, arith, cases_eq, cmp_ip6, cond, entry_due, entry_under, find, get, inl, inr, is_of, is_some, key_of, known_to, listings_of, peer_in, refl, same_ip6, subst, sym, table_after, true, with_peer_at, with_value, ℕ, ◌∙◌, ◌≡◌, ◌≤◌}
use Rattle.std.specs.BTreeMap as map
use Rattle.peer_list.proofs.OrderLemmas.{turn_same}
use Rattle.peer_list.proofs.ListingLemmas.{updates_by, known_there}
use Rattle.peer_list.proofs.EntryLemmas.{Changes, finds, led, names_changed, once_changed, since_changed, entry_changed, turn_changed}

pub is_there : (s : Slab Listing) (key : ℕ) (l : Listing) → get s key ≡ Some l → ContainsKey s key
is_there s key l was = ap is_some was

pub change_at : (s : Slab Listing) (key : ℕ) (l : Listing) (peer : Peer) → get s key ≡ Some l → Changes s (with_value s key (with_peer_at l peer)) key l (with_peer_at l peer)
change_at s key l peer was = record { was = was; who = refl; update = Updates-with_value s key (with_peer_at l peer) (is_there s key l was) }

-- an address that finds its entry has a key, and the entry is its own
pub who_is : (e : Entries) (who : Ip6) (key : ℕ) (l : Listing) → NameEachOther e.slab e.index → key_of e who ≡ Some key → get e.slab key ≡ Some l → l.who ≡ who
who_is e who key l n k at =
    let there = led e.slab e.index.entries who key n.leads k in
    ap (λ o. who_of o) (sym at ∙ there.at) ∙ there.who
  where
    who_of : Option Listing → Ip6
    who_of None = l.who
    who_of (Some x) = x.who

pub there_at : (e : Entries) (who : Ip6) (key : ℕ) → NameEachOther e.slab e.index → key_of e who ≡ Some key → ContainsKey e.slab key
there_at e who key n k = ap is_some (led e.slab e.index.entries who key n.leads k).at

pub found_at : (e : Entries) (who : Ip6) (key : ℕ) (l : Listing) → NameEachOther e.slab e.index → key_of e who ≡ Some key → get e.slab key ≡ Some l → find (is_of who) (listings_of e) ≡ Some l
found_at e who key l n k at = finds e who n ∙ ap (entry_under e.slab) k ∙ at

-- NEW IS OLD WITH ANOTHER PEER UNDER A KEY

module _ {old new : Entries} {key : ℕ} {l : Listing} {peer : Peer} (a : IsAfter old new key l peer) where
  change : Changes old.slab new.slab key l (with_peer_at l peer)
  change = subst (λ (t : Slab Listing). Changes old.slab t key l (with_peer_at l peer)) (sym a.slab) (change_at old.slab key l peer a.was)

  pub names_after : AreWhole old → NameEachOther new.slab new.index
  names_after w = subst (NameEachOther new.slab) (sym a.index) (names_changed change old.index w.names)

  pub whole_but : (before : Option (Millis × Ip6)) → before ≡ entry_due (get old.slab key) → new.order ≡ old.order → AreWhole old → AreWholeBut new key before
  whole_but before was order w = record {
    names = names_after w;
    there = ap is_some change.update.changed;
    once = rw order (once_changed change before old.order.items was w.once);
    turn = rw order (turn_changed change old.order.items w.turn);
    room = rw (order, a.index) w.room;
  }

  pub kept_after : (m n : ℕ) → AreKept old m → m ≤ n → AreWhole new → IsSince old.touched.0 peer.touched → AreKept new n
  kept_after m n k later w since = record {
    whole = w;
    touched = rw a.touched (since_changed change old.touched.0 since k.touched);
    past = let past = k.past in let same = ap (λ (t : Millis). t.0) a.touched in omega (arith, past, later, same);
  }

  -- each other address finds what it found
  pub finds_after : AreWhole old → (p : Ip6) → find (is_of p) (listings_of new) ≡ cond (same_ip6 p l.who) (Some (with_peer_at l peer)) (find (is_of p) (listings_of old))
  finds_after w p =
      finds new p (names_after w)
      ∙ ap (λ x. entry_under new.slab (map.get cmp_ip6 x p)) a.index
      ∙ entry_changed change old.index p w.names
      ∙ ap (λ o. cond (same_ip6 p l.who) (Some (with_peer_at l peer)) o) (sym (finds old p w.names))

  pub finds_at : (who : Ip6) → AreWhole old → key_of old who ≡ Some key → (p : Ip6) → find (is_of p) (listings_of new) ≡ cond (same_ip6 p who) (Some (with_peer_at l peer)) (find (is_of p) (listings_of old))
  finds_at who w found p =
      let same : l.who ≡ who = who_is old who key l w.names found a.was in
      finds_after w p ∙ ap (λ q. cond (same_ip6 p q) (Some (with_peer_at l peer)) (find (is_of p) (listings_of old))) same

  -- so the table is updated at that address
  pub updates_after : (k m : ℕ) (last next : Option Ip6) (who : Ip6) → AreWhole old → key_of old who ≡ Some key
      → KnowsThen (table_after k last (listings_of old)) (table_after m next (listings_of new)) m who peer
  updates_after k m last next who w found = updates_by (table_after k last (listings_of old)) (table_after m next (listings_of new)) m who (with_peer_at l peer) refl (finds_at who w found)

  -- where it is due as before no key moves
  turn_due : entry_due (Some (with_peer_at l peer)) ≡ entry_due (Some l) → new.order ≡ old.order → AreWhole old → AreInTurn new.slab new.order.items
  turn_due still order w = rw order (turn_same old.slab new.slab old.order.items due_same w.turn) where
    due_same : (k : ℕ) → entry_due (get new.slab k) ≡ entry_due (get old.slab k)
    due_same k = elim (cases_eq k key) [
      | inl same ↦ ap (λ i. entry_due (get new.slab i)) same ∙ ap entry_due change.update.changed ∙ still ∙ sym (ap (λ i. entry_due (get old.slab i)) same ∙ ap entry_due a.was)
      | inr differs ↦ ap entry_due (change.update.others k differs)
    ]

  pub turn_still : (before : Option (Millis × Ip6)) → before ≡ entry_due (get old.slab key) → entry_due (get new.slab key) ≡ before → new.order ≡ old.order → AreWhole old → AreInTurn new.slab new.order.items
  turn_still before was now order w = turn_due (sym (ap entry_due change.update.changed) ∙ now ∙ was ∙ ap entry_due a.was) order w

-- what is known of an address that is listed, and has a key
pub known_at : (e : Entries) (k n : ℕ) (last : Option Ip6) (who : Ip6) (key : ℕ) (l : Listing) → AreWhole e → key_of e who ≡ Some key → get e.slab key ≡ Some l
    → is_some (peer_in (table_after k last (listings_of e)) n who) ≡ true → known_to (table_after k last (listings_of e)) n who ≡ l.peer
known_at e k n last who key l w found at listed = known_there (table_after k last (listings_of e)) n who l (found_at e who key l w.names found at) listed

-- a peer that was touched then
pub since_touched : (e : Entries) (m n : ℕ) (peer : Peer) → AreKept e m → m ≤ n → peer.touched ≡ Some n → IsSince e.touched.0 peer.touched
since_touched e m n peer k later touched = subst (IsSince e.touched.0) (sym touched) (let past = k.past in omega (arith, past, later))

-- whoever was touched since one moment was touched since one before
pub since_before : (a b : ℕ) (o : Option ℕ) → a ≤ b → IsSince b o → IsSince a o
since_before a b None le h = h
since_before a b (Some k) le h = omega (arith, le, h)
