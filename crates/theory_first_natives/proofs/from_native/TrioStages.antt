-- The stages of a packet from a native host to a client: which entry is on its way, and what it finds. At any moment at most one is,
-- until the packet has come.
use Rattle.theory_first_natives.proofs.Words.{At, Bool, ComesIn, Full, GivesToHost, Grown, HOST_HOP, HasArrivedLate, Journal, List, Made, None, Option, PEERS_MAX, Peer, Send, Some, [], asks_at, bubble_bytes, client_address, cond, embedded, false, forwarded, has_cone, has_room, held_from, holds_most, is_barred, is_fresh, is_listed, is_none, is_some, is_trusted_at, journal, known, length, listed, map, mentions, message_packet, not, now, packet_bytes, relay_mentions, releases, sent, server_ep, server_in, six, slice_get, suc, test_bytes, true, udp, wire, ℕ, ◌&&◌, ◌++◌, ◌+◌, ◌∷◌, ◌≡◌, ◌≤◌, ◌⊎◌}
use Rattle.theory_first_natives.proofs.tables.ClientTests.{MayBeTested}
use Rattle.theory_first_natives.proofs.tables.NativeReads.{answer}
use Rattle.theory_first_natives.proofs.from_native.Trio.{Trio}

-- ENTRIES

-- entry number i of the wire is this packet of the IPv6 side
abbrev pub OnSix : List Full → ℕ → Option ℕ → List ℕ → Type 0
OnSix H i to bytes = slice_get (wire H) i ≡ Some (six to bytes)

-- the test with a nonce, and the native's reply to it
abbrev pub test_of : Trio → ℕ → List ℕ
test_of p nonce = test_bytes p.a.own p.h.six nonce

abbrev pub reply_of : Trio → ℕ → List ℕ
reply_of p nonce = packet_bytes (message_packet HOST_HOP p.h.six p.a.own (answer nonce))

-- WHAT IS KNOWN

-- nothing waits for a peer, nothing of it is held, and it isn't trusted
abbrev pub is_strange : Peer → Bool
is_strange peer = not (is_some peer.trusted) && (is_none peer.waiting && is_none peer.held)

-- the client knows as much of the native as beforehand, and has room for it. Where it doesn't trust it at the relay's endpoint it
-- may test it, be the packets that it holds of it few or as many as it may
pub record HostStaysAt (p : Trio) (j : Journal) (n : ℕ) : Type 0 where
  pub same : known (mentions j.entries) n p.h.six ≡ p.of_host
  pub room : has_room (mentions j.entries) n p.h.six ≡ true
  pub may_test : is_trusted_at p.r.at p.of_host ≡ false → MayBeTested n p.of_host

-- and it may answer a bubble of the relay, for which it has room, beside the native where it lists neither
pub record MayHearAt (p : Trio) (j : Journal) (n : ℕ) : Type 0 where
  pub host : HostStaysAt p j n
  pub unbarred : is_barred n (known (mentions j.entries) n p.r.six) ≡ false
  pub room : has_room (mentions j.entries) n p.r.six ≡ true
  pub room_for_both : is_listed p.h.six n (mentions j.entries) ≡ false → is_listed p.r.six n (mentions j.entries) ≡ false
      → length (listed (mentions j.entries) n) + 2 ≤ PEERS_MAX

-- what the client holds from the relay once it tested the native on the packet: this too, unless it held as many as it may
abbrev pub held_then : Trio → List (List ℕ)
held_then p = cond (holds_most p.of_host) (held_from p.r.at p.of_host.held) (held_from p.r.at p.of_host.held ++ p.x ∷ [])

-- the client holds the packet until the test is answered, behind those that it held before, or these alone
pub record HoldsAt (p : Trio) (nonce : ℕ) (j : Journal) (n : ℕ) : Type 0 where
  pub listed : is_listed p.h.six n (mentions j.entries) ≡ true
  pub waiting : (known (mentions j.entries) n p.h.six).waiting ≡ p.of_host.waiting
  pub held : held_from p.r.at (known (mentions j.entries) n p.h.six).held ≡ held_then p
  pub tested : (known (mentions j.entries) n p.h.six).nonce ≡ Some nonce
  pub untrusted : is_trusted_at p.r.at (known (mentions j.entries) n p.h.six) ≡ false
  pub stale : is_fresh n (known (mentions j.entries) n p.h.six) ≡ false
  pub before : is_trusted_at p.r.at p.of_host ≡ false

-- the relay doesn't trust the client, has room for it, and may ask it; it keeps the packet for it; or it trusts it, and keeps nothing
pub record RelayAsksAt (p : Trio) (j : Journal) (n : ℕ) : Type 0 where
  pub untrusted : is_some (known (relay_mentions j.entries) n p.a.own).trusted ≡ false
  pub room : has_room (relay_mentions j.entries) n p.a.own ≡ true
  pub unbarred : is_barred n (known (relay_mentions j.entries) n p.a.own) ≡ false
  pub nothing_waits : (known (relay_mentions j.entries) n p.a.own).waiting ≡ []

pub record RelayKeepsAt (p : Trio) (j : Journal) (n : ℕ) : Type 0 where
  pub listed : is_listed p.a.own n (relay_mentions j.entries) ≡ true
  pub waiting : (known (relay_mentions j.entries) n p.a.own).waiting ≡ p.x ∷ []

pub record RelayTrustsAt (p : Trio) (j : Journal) (n : ℕ) : Type 0 where
  pub listed : is_listed p.a.own n (relay_mentions j.entries) ≡ true
  pub waiting : (known (relay_mentions j.entries) n p.a.own).waiting ≡ []
  pub trusted : is_some (known (relay_mentions j.entries) n p.a.own).trusted ≡ true

-- it trusts the client, whatever waits for it
abbrev pub TrustsClientAt : Trio → Journal → ℕ → Type 0
TrustsClientAt p j n = is_some (known (relay_mentions j.entries) n p.a.own).trusted ≡ true

-- it doesn't trust the client, and has room for it
pub record RelayHasRoomAt (p : Trio) (j : Journal) (n : ℕ) : Type 0 where
  pub untrusted : is_some (known (relay_mentions j.entries) n p.a.own).trusted ≡ false
  pub room : has_room (relay_mentions j.entries) n p.a.own ≡ true

-- after a history
abbrev pub HostStays : Trio → List Full → Type 0
HostStays p H = HostStaysAt p (journal p.a.n H) (now H)

abbrev pub MayHear : Trio → List Full → Type 0
MayHear p H = MayHearAt p (journal p.a.n H) (now H)

abbrev pub HoldsIt : Trio → List Full → ℕ → Type 0
HoldsIt p H nonce = HoldsAt p nonce (journal p.a.n H) (now H)

abbrev pub RelayAsks : Trio → List Full → Type 0
RelayAsks p H = RelayAsksAt p (journal p.k H) (now H)

abbrev pub RelayKeeps : Trio → List Full → Type 0
RelayKeeps p H = RelayKeepsAt p (journal p.k H) (now H)

abbrev pub RelayTrusts : Trio → List Full → Type 0
RelayTrusts p H = RelayTrustsAt p (journal p.k H) (now H)

abbrev pub TrustsClient : Trio → List Full → Type 0
TrustsClient p H = TrustsClientAt p (journal p.k H) (now H)

abbrev pub RelayHasRoom : Trio → List Full → Type 0
RelayHasRoom p H = RelayHasRoomAt p (journal p.k H) (now H)

-- what the relay sends is let in to the client
abbrev pub IsOpen : Trio → List Full → Type 0
IsOpen p H = ComesIn p.lab H p.r.at p.a

-- the relay sends the packet on at once: it trusts the client, or the client has the cone bit
pub data SendsAtOnce (p : Trio) (H : List Full) : Type 0 where
  to_trusted : TrustsClient p H → IsOpen p H → SendsAtOnce p H
  to_cone : has_cone p.a.own ≡ true → RelayHasRoom p H → SendsAtOnce p H

-- THE STAGES

-- so many deliveries are left. The last entry is the packet to the relay, the relay's bubble to the server and from there to the
-- client, the client's bubble, the packet to the client, the test to the server, the test to the native, its reply to the relay, the
-- reply to the client. Or the packet has come
pub data Stage (p : Trio) (H : List Full) (last : ℕ) (later : List Full) : ℕ → Type 0 where
  must_wait : OnSix H last (Some p.k) p.x → has_cone p.a.own ≡ false → RelayAsks p H → MayHear p H → Stage p H last later 9
  goes_straight : OnSix H last (Some p.k) p.x → SendsAtOnce p H → HostStays p H → Stage p H last later 6
  bubbles : At H last p.r.at (server_ep (server_in p.a.own)) (bubble_bytes p.r.six p.a.own) → RelayKeeps p H → MayHear p H → Stage p H last later 8
  tells : At H last (asks_at p.lab p.a.c) (embedded p.a.own) (forwarded (Some p.r.at) (bubble_bytes p.r.six p.a.own)) → RelayKeeps p H → MayHear p H
      → Stage p H last later 7
  answers : At H last (embedded p.a.own) p.r.at (bubble_bytes p.a.own p.r.six) → RelayKeeps p H → HostStays p H → IsOpen p H → Stage p H last later 6
  comes : At H last p.r.at (embedded p.a.own) p.x → TrustsClient p H → HostStays p H → IsOpen p H → Stage p H last later 5
  tests : (nonce : ℕ) → At H last (embedded p.a.own) (asks_at p.lab p.a.c) (test_of p nonce) → HoldsIt p H nonce → TrustsClient p H → IsOpen p H
      → is_trusted_at p.r.at p.of_host ≡ false → Stage p H last later 4
  asks : (nonce : ℕ) → OnSix H last None (test_of p nonce) → HoldsIt p H nonce → TrustsClient p H → IsOpen p H → Stage p H last later 3
  echoes : (nonce : ℕ) → OnSix H last (Some p.k) (reply_of p nonce) → HoldsIt p H nonce → TrustsClient p H → IsOpen p H → Stage p H last later 2
  replies : (nonce : ℕ) → At H last p.r.at (embedded p.a.own) (reply_of p nonce) → HoldsIt p H nonce → TrustsClient p H → IsOpen p H
      → Stage p H last later 1
  has_come : HasArrivedLate p.a.n p.x later → Stage p H last later 0

-- the client keeps its address, and what its server sends is let in
pub record Ground (p : Trio) (H : List Full) : Type 0 where
  pub grown : Grown p.lab H
  pub address : client_address p.lab H p.a.n p.a.c ≡ Some p.a.own
  pub way : ComesIn p.lab H (asks_at p.lab p.a.c) p.a

-- the client trusts the native at the relay's endpoint, and nothing waits for it
pub record TrustsHostAt (p : Trio) (j : Journal) (n : ℕ) : Type 0 where
  pub trusted : is_trusted_at p.r.at (known (mentions j.entries) n p.h.six) ≡ true
  pub nothing_waits : (known (mentions j.entries) n p.h.six).waiting ≡ []

abbrev pub TrustsHost : Trio → List Full → Type 0
TrustsHost p H = TrustsHostAt p (journal p.a.n H) (now H)

-- these leave the client for the relay, in this order
abbrev pub leaves_for_relay : Trio → List (List ℕ) → List Made
leaves_for_relay p ws = map (λ (u : Send). sent (udp (embedded p.a.own) u.to u.bytes)) (releases p.r.at ws)

-- a record hands the client's host late what was held from the relay, and nothing else. What waited for the native goes to the relay. Client
-- and relay trust those whom they hear from
pub record HandsHeld (p : Trio) (H : List Full) (q : Full) : Type 0 where
  pub node : q.node ≡ Some p.a.n
  pub handed : q.handed ≡ None
  pub late : q.late ≡ held_then p
  pub before : Ground p H
  pub ground : Ground p (q ∷ H)
  pub client_trusts : TrustsHost p (q ∷ H)
  pub relay_trusts : TrustsClient p (q ∷ H)
  pub opened : IsOpen p (q ∷ H)
  pub made : q.made ≡ leaves_for_relay p (known (mentions (journal p.a.n H).entries) (now H) p.h.six).waiting

-- what a delivery of the last entry leaves: one more entry, none, or anything where the packet has come from a native that isn't
-- strange to the client, or only what was held of it
pub data Next (p : Trio) (H : List Full) (q : Full) (last : ℕ) (later : List Full) : ℕ → Type 0 where
  goes_on : (k : ℕ) → Ground p (q ∷ H) → length (wire (q ∷ H)) ≡ suc (suc last) → Stage p (q ∷ H) (suc last) (q ∷ later) (suc k)
      → (GivesToHost p.a.n p.x q → ⊥) → Next p H q last later (suc (suc k))
  ends : Ground p (q ∷ H) → length (wire (q ∷ H)) ≡ suc last → Stage p (q ∷ H) last (q ∷ later) 0 → holds_most p.of_host ≡ false
      → Next p H q last later 1
  brings : (k : ℕ) → GivesToHost p.a.n p.x q → is_strange p.of_host ≡ false → (is_trusted_at p.r.at p.of_host ≡ true) ⊎ (holds_most p.of_host ≡ false)
      → Next p H q last later (suc k)
  parts : (k : ℕ) → holds_most p.of_host ≡ true → is_trusted_at p.r.at p.of_host ≡ false → HandsHeld p H q → Next p H q last later (suc k)
