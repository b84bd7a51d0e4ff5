-- Of whom something is known, that one is listed.
use Rattle.client_core.proofs.Words.{Ep, Ip6, None, Option, Peer, Seen, Some, Table, and_parts, has_room_in, holds_most, is_plain, is_some, is_testable, is_trusted_at, no_peer, not, peer_in, refl, true, unwrap_or, ℕ, ◌&&◌, ◌≡◌}

-- whoever is trusted somewhere
pub trusted_is_listed : (from : Ep) (p : Option Peer) → is_trusted_at from (unwrap_or p no_peer) ≡ true → is_some p ≡ true
unfolding is_trusted_at
trusted_is_listed from None h = cc
trusted_is_listed from (Some peer) h = refl

-- whose packets are held
pub holding_is_listed : (p : Option Peer) → holds_most (unwrap_or p no_peer) ≡ true → is_some p ≡ true
unfolding holds_most
holding_is_listed None h = cc
holding_is_listed (Some peer) h = refl

-- for whoever is listed there is room
pub listed_has_room : (t : Table) (n : ℕ) (p : Ip6) → is_some (peer_in t n p) ≡ true → has_room_in t n p ≡ true
unfolding has_room_in
listed_has_room t n p there = rw there refl

-- and for whoever may be tested
pub testable_has_room : (a : Seen) → is_testable a ≡ true → a.peer.room ≡ true
testable_has_room a h =
    let global = and_parts a.global (not a.peer.fresh && (not a.peer.barred && (a.peer.room && is_plain a))) h in
    let stale = and_parts (not a.peer.fresh) (not a.peer.barred && (a.peer.room && is_plain a)) global.1 in
    let unbarred = and_parts (not a.peer.barred) (a.peer.room && is_plain a) stale.1 in
    (and_parts a.peer.room (is_plain a) unbarred.1).0
