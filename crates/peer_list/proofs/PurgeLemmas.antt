-- A call that lists a peer, over entries p, which are those of e that are still listed.
use Rattle.peer_list.proofs.Words.{Adds, AreKept, AreWhole, Entries, Ip6, IsAfter, KnowsStill, KnowsThen, Listing, None, PEERS_MAX, Peer, Some, ap, entry_under, filter, find, get, has_room_in, is_listed_at, is_of, key_of, known_to, length, listings_of, nat_lt, no_peer, peer_in, subst, sym, table, unwrap_or, with_peer_at, ℕ, ◌∙◌, ◌≡◌}
use Rattle.peer_list.proofs.PlaceLemmas.{apart_of}
use Rattle.peer_list.proofs.EntryLemmas.{finds, sound_of, length_of}
use Rattle.peer_list.proofs.AdmitLemmas.{Purged, keeps_purged, keeps_same, was_there, was_nowhere, room_nowhere, updates_purged}
use Rattle.peer_list.proofs.ChangeLemmas.{found_at, finds_at}
use Rattle.peer_list.proofs.AddLemmas.{finds_added}

module _ {e p : Entries} {m : ℕ} (was : AreKept e m) (kept : AreKept p m) (is : listings_of p ≡ filter (is_listed_at m) (listings_of e)) where
  purge : Purged m (listings_of e) (listings_of p)
  purge = record { apart = apart_of (sound_of e was.whole.names); is = is }

  pub keeps : KnowsStill (table m (listings_of e)) (table m (listings_of p)) m
  keeps = keeps_purged m (listings_of e) (listings_of p) purge

  pub keeps_all : (new : Entries) → listings_of new ≡ listings_of p → KnowsStill (table m (listings_of e)) (table m (listings_of new)) m
  keeps_all new same = keeps_same m (listings_of e) (listings_of p) (listings_of new) purge same

  -- where an address has no key
  nowhere : (who : Ip6) → key_of p who ≡ None → find (is_of who) (listings_of p) ≡ None
  nowhere who none = finds p who kept.whole.names ∙ ap (entry_under p.slab) none

  pub unlisted : (who : Ip6) → key_of p who ≡ None → peer_in (table m (listings_of e)) m who ≡ None
  unlisted who none = was_nowhere m (listings_of e) (listings_of p) who purge (nowhere who none)

  pub unknown : (who : Ip6) → key_of p who ≡ None → known_to (table m (listings_of e)) m who ≡ no_peer
  unknown who none = ap (λ o. unwrap_or o no_peer) (unlisted who none)

  pub room_is : (who : Ip6) → key_of p who ≡ None → has_room_in (table m (listings_of e)) m who ≡ nat_lt (length p.index.entries) PEERS_MAX
  room_is who none = room_nowhere m (listings_of e) (listings_of p) who purge (nowhere who none) ∙ ap (λ n. nat_lt n PEERS_MAX) (length_of p kept.whole.names)

  pub updates_added : (new : Entries) (l : Listing) (call : Peer → Peer) → key_of p l.who ≡ None → AreWhole new → Adds p new l → l.peer ≡ call no_peer
      → KnowsThen (table m (listings_of e)) (table m (listings_of new)) m l.who (call (known_to (table m (listings_of e)) m l.who))
  updates_added new l call none w adds done =
      subst (λ (x : Peer). KnowsThen (table m (listings_of e)) (table m (listings_of new)) m l.who x) (done ∙ ap call (sym (unknown l.who none)))
      (updates_purged m (listings_of e) (listings_of p) (listings_of new) l.who l purge (finds_added p new l kept.whole.names w.names adds))

  -- where it has one, and an entry under it
  module _ (who : Ip6) (key : ℕ) (l : Listing) (found : key_of p who ≡ Some key) (at : get p.slab key ≡ Some l) where
    pub known : known_to (table m (listings_of e)) m who ≡ l.peer
    known = was_there m (listings_of e) (listings_of p) who l purge (found_at p who key l kept.whole.names found at)

    pub updates_there : (new : Entries) (peer : Peer) (call : Peer → Peer) → IsAfter p new key l peer → peer ≡ call l.peer
        → KnowsThen (table m (listings_of e)) (table m (listings_of new)) m who (call (known_to (table m (listings_of e)) m who))
    updates_there new peer call a done =
        subst (λ (x : Peer). KnowsThen (table m (listings_of e)) (table m (listings_of new)) m who x) (done ∙ ap call (sym known))
        (updates_purged m (listings_of e) (listings_of p) (listings_of new) who (with_peer_at l peer) purge (finds_at a who kept.whole found))
