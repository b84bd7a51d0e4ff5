-- The first packet from one settled client to another, where no NAT is behind another one: it arrives, in whatever order the
-- datagrams that it draws are delivered (RFC 4380, sections 5.2.3, 5.2.4 and 5.2.6).
use Rattle.std.specs.Prelude.{◌≡◌, ◌≢◌, ◌≤◌, ◌⊎◌, ℕ, true, false, List, length, Some}
use Rattle.td_base.specs.declared.ipv6.Ip6.{Ip6}
use Rattle.ipv6_packet.specs.declared.header.TheConstants.{PACKET_MAX}
use Rattle.ipv6_packet.specs.Reads.{is_packet, fields_in}
use Rattle.teredo_addr.specs.Teredo.{has_cone}
use Rattle.bubble.specs.Bubbles.{is_bubble}
use Rattle.teredo_node.specs.declared.fate.Fate.TheVariants as fate
use Rattle.teredo_node.specs.Journal.{given, Entry}
use Rattle.peer_list.specs.Listed.{is_listed, has_room}
use Rattle.client_rules.specs.Bearings.{mentions}
use Rattle.topology.specs.declared.client_node.ClientNode.{ClientNode}
use Rattle.topology.specs.Topology.{client_at}
use Rattle.history.specs.Full.{Full}
use Rattle.legal.specs.Lab.{Lab}
use Rattle.legal.specs.Past.{now, journal}
use Rattle.theory_settled.specs.Settled.{IsSettled}
use Rattle.theory_first_packets.specs.Schedules.{AreFresh, IsComplete, SomeIs}

-- THE PREMISE

-- since its last change of address client n doesn't list the peer, so it keeps nothing for it, and has room for it
-- Premise: a peer that a client doesn't know: it is `unlisted`, so nothing is kept for it; and there is `room` for it,
-- beside fewer than 256 others.
pub record IsNew (H : List Full) (n : ℕ) (peer : Ip6) : Type 0 where
  pub unlisted : is_listed peer (now H) (mentions (journal n H).entries) ≡ false
  pub room : has_room (mentions (journal n H).entries) (now H) peer ≡ true

-- x is a packet from one address to another, no bubble, which every link carries whole
-- Premise: what is handed in: a `packet`, `short`, which is of at most 1,280 bytes, `no_bubble`, with the sender's
-- address as its `source` and the receiver's as its `destination`.
pub record GoesBetween (own other : Ip6) (x : List ℕ) : Type 0 where
  pub packet : is_packet x ≡ true
  pub short : length x ≤ PACKET_MAX
  pub no_bubble : is_bubble (fields_in x) ≡ false
  pub source : (fields_in x).src ≡ own
  pub destination : (fields_in x).dst ≡ other

-- client n, which is a, has the address own, and client m, which is b, the address other. They are behind different NATs,
-- settled, and new to each other
-- Premise: two clients before a first packet: `sender` and `receiver` are clients; their NATs differ, `apart`; both are
-- settled, `sender_settled` and `receiver_settled`; and each is new to the other, `sender_new` and `receiver_new`, so
-- each has room for the other.
pub record AreStrangers (lab : Lab) (H : List Full) (n m : ℕ) (a b : ClientNode) (own other : Ip6) : Type 0 where
  pub sender : client_at lab.topology n ≡ Some a
  pub receiver : client_at lab.topology m ≡ Some b
  pub apart : a.nat ≢ b.nat
  pub sender_settled : IsSettled lab H n a own
  pub receiver_settled : IsSettled lab H m b other
  pub sender_new : IsNew H n other
  pub receiver_new : IsNew H m own

-- in a record the host of client n hands in x, a packet from one address to another
-- Premise: the record of a packet: it is of the sender, its `node`, which `did` an `entry` whose input is a packet of
-- its host, `packet_in`; the `packet` goes from the sender's address to the receiver's.
pub record HostHandsIn (r : Full) (n : ℕ) (own other : Ip6) (x : List ℕ) : Type 0 where
  pub node : r.node ≡ Some n
  pub entry : Entry
  pub did : r.entry ≡ Some entry
  pub packet_in : entry.input ≡ given x
  pub packet : GoesBetween own other x

-- in the record after H the host of client n hands in x for client m
-- Premise: the packet: the `clients` are strangers or may meet, as above; and the sender's host hands it in, `handed`.
pub record IsFirstPacket (lab : Lab) (H : List Full) (r : Full) (n m : ℕ) (a b : ClientNode) (own other : Ip6) (x : List ℕ) : Type 0 where
  pub clients : AreStrangers lab H n m a b own other
  pub handed : HostHandsIn r n own other x

-- WHAT BECOMES OF IT

-- a record hands just x to the host of node m, by rule 1 or by rule 3
pub record Arrives (m : ℕ) (x : List ℕ) (q : Full) : Type 0 where
  pub node : q.node ≡ Some m
  pub packet : q.handed ≡ Some x
  pub rule : (q.fate ≡ fate.Rule1) ⊎ (q.fate ≡ fate.Rule3)

-- one of these records does
abbrev pub HasArrived : ℕ → List ℕ → List Full → Type 0
HasArrived m x = SomeIs (Arrives m x)

-- a fresh schedule after it has at most five deliveries; four where the sender's address has the cone bit, and one where the
-- receiver's has it. A complete one brings the packet to the receiver's host
pub record GetsThrough (H : List Full) (r : Full) (m : ℕ) (own other : Ip6) (x : List ℕ) (later : List Full) : Type 0 where
  pub few : length later ≤ 5
  pub few_from_cone : has_cone own ≡ true → length later ≤ 4
  pub few_to_cone : has_cone other ≡ true → length later ≤ 1
  pub arrives : IsComplete H r later → HasArrived m x later

-- the first packet in the record after H is carried in the schedule after it, where this is fresh
abbrev pub FirstPacketArrives : Lab → List Full → Full → List Full → Type 0
FirstPacketArrives lab H r later = (n m : ℕ) (a b : ClientNode) (own other : Ip6) (x : List ℕ)
    → IsFirstPacket lab H r n m a b own other x → AreFresh r later → GetsThrough H r m own other x later
