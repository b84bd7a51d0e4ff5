-- A packet from one settled client to another, be it the first or a later one, where no NAT is behind another one: wherever the
-- two may meet it arrives, as the first one between strangers does (RFC 4380, sections 5.2.3, 5.2.4 and 5.2.6).
use Rattle.std.specs.Prelude.{◌≡◌, ◌≢◌, ℕ, true, false, List, [], ◌∷◌, ◌++◌, Some}
use Rattle.td_base.specs.declared.ipv6.Ip6.{Ip6}
use Rattle.teredo_addr.specs.Teredo.{has_cone}
use Rattle.peer_list.specs.Listed.{has_room}
use Rattle.peer_list.specs.Peers.{Peer, known}
use Rattle.peer_list.specs.Judged.{is_fresh, is_barred}
use Rattle.client_rules.specs.Bearings.{mentions}
use Rattle.topology.specs.declared.client_node.ClientNode.{ClientNode}
use Rattle.topology.specs.Rows.{TopologyState}
use Rattle.topology.specs.Rules.{IsTopology}
use Rattle.topology.specs.Topology.{client_at}
use Rattle.history.specs.Full.{Full}
use Rattle.legal.specs.Lab.{Lab, Draws, flat_lab}
use Rattle.legal.specs.Past.{now, journal}
use Rattle.legal.specs.Legal.{Grown}
use Rattle.theory_settled.specs.Settled.{IsSettled}
use Rattle.theory_first_packets.specs.Schedules.{AreFresh}
use Rattle.theory_first_packets.specs.FirstPacket.{HostHandsIn, AreStrangers, GetsThrough}

-- WHAT A CLIENT KNOWS OF THE OTHER

-- what client n knows of the peer now
abbrev pub known_by : List Full → ℕ → Ip6 → Peer
known_by H n peer = known (mentions (journal n H).entries) (now H) peer

-- it lists the peer or has room for it, and no packet waits for it there
-- Premise: a client ready for a peer: it lists it or has `room` for it, and `nothing_waits` for it there.
pub record IsReadyFor (H : List Full) (n : ℕ) (peer : Ip6) : Type 0 where
  pub room : has_room (mentions (journal n H).entries) (now H) peer ≡ true
  pub nothing_waits : (known_by H n peer).waiting ≡ []

-- it isn't barred for the peer
abbrev pub IsUnbarredFor : List Full → ℕ → Ip6 → Type 0
IsUnbarredFor H n peer = is_barred (now H) (known_by H n peer) ≡ false

-- THE PREMISE

-- *may meet*: two settled clients behind different NATs with room for each other; the second isn't fresh at the first,
-- and neither is barred or keeps packets.
-- client n, which is a, has the address own, and client m, which is b, the address other. They are behind different NATs and
-- settled. The receiver isn't fresh at the sender, and is ready for it. Where the receiver's address has no cone bit, the sender
-- is ready too, and neither is barred for the other
-- Premise: two clients before any packet of one to the other: `sender` and `receiver` are clients, `apart` behind
-- different NATs, settled both, `sender_settled` and `receiver_settled`; the receiver isn't fresh at the sender, which
-- is `stale`; it has room for the sender and keeps nothing for it, `receiver_ready`. Where the receiver's address has
-- no cone bit the sender has room and keeps nothing for it either, `sender_ready`, and neither is barred for the other,
-- `sender_unbarred` and `receiver_unbarred`.
pub record MayMeet (lab : Lab) (H : List Full) (n m : ℕ) (a b : ClientNode) (own other : Ip6) : Type 0 where
  pub sender : client_at lab.topology n ≡ Some a
  pub receiver : client_at lab.topology m ≡ Some b
  pub apart : a.nat ≢ b.nat
  pub sender_settled : IsSettled lab H n a own
  pub receiver_settled : IsSettled lab H m b other
  pub stale : is_fresh (now H) (known_by H n other) ≡ false
  pub receiver_ready : IsReadyFor H m own
  pub sender_ready : has_cone other ≡ false → IsReadyFor H n other
  pub sender_unbarred : has_cone other ≡ false → IsUnbarredFor H n other
  pub receiver_unbarred : has_cone other ≡ false → IsUnbarredFor H m own

-- in the record after H the host of client n hands in x for client m
-- Premise: See `IsFirstPacket`.
pub record IsNextPacket (lab : Lab) (H : List Full) (r : Full) (n m : ℕ) (a b : ClientNode) (own other : Ip6) (x : List ℕ) : Type 0 where
  pub clients : MayMeet lab H n m a b own other
  pub handed : HostHandsIn r n own other x

-- WHAT FOLLOWS

-- it is carried as a first packet is, in the schedule after it, where this is fresh
abbrev pub EachNextPacketArrives : Type 0
EachNextPacketArrives = (d : Draws) (t : TopologyState) (H : List Full) (r : Full) (later : List Full) → IsTopology t
    → Grown (flat_lab d t) (later ++ r ∷ H) → (n m : ℕ) (a b : ClientNode) (own other : Ip6) (x : List ℕ)
    → IsNextPacket (flat_lab d t) H r n m a b own other x → AreFresh r later → GetsThrough H r m own other x later

-- strangers may meet
abbrev pub StrangersMayMeet : Type 0
StrangersMayMeet = (lab : Lab) (H : List Full) (n m : ℕ) (a b : ClientNode) (own other : Ip6) → AreStrangers lab H n m a b own other
    → MayMeet lab H n m a b own other
