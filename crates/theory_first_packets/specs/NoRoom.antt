-- What becomes of a first packet where one of the two clients has no room for the other, since it lists as many others as it may
-- (RFC 4380, section 5.2): the sender drops it, or the receiver hears nothing of it. So both need room.
use Rattle.std.specs.Prelude.{◌≡◌, ◌≢◌, ℕ, true, false, List, [], ◌∷◌, ◌++◌, Some, None}
use Rattle.td_base.specs.declared.ipv6.Ip6.{Ip6}
use Rattle.td_base.specs.declared.endpoint.Ep.{Ep}
use Rattle.teredo_addr.specs.Teredo.{is_teredo, has_cone}
use Rattle.bubble.specs.PacketsIn.{source_in}
use Rattle.teredo_node.specs.declared.fate.Fate.TheVariants as fate
use Rattle.teredo_node.specs.Journal.{arrived, Entry}
use Rattle.peer_list.specs.Listed.{has_room}
use Rattle.client_rules.specs.Bearings.{mentions}
use Rattle.topology.specs.Rows.{TopologyState}
use Rattle.topology.specs.Rules.{IsTopology}
use Rattle.topology.specs.declared.client_node.ClientNode.{ClientNode}
use Rattle.topology.specs.declared.node.Node.TheVariants.{Client as client}
use Rattle.topology.specs.Topology.{client_at}
use Rattle.history.specs.Full.{Full}
use Rattle.legal.specs.Lab.{Lab, Draws, flat_lab}
use Rattle.legal.specs.Past.{now, journal}
use Rattle.legal.specs.Legal.{Grown}
use Rattle.legal.specs.Actors.{IsActOf}
use Rattle.theory_settled.specs.Settled.{IsSettled}
use Rattle.theory_first_packets.specs.Schedules.{AreFresh}
use Rattle.theory_first_packets.specs.FirstPacket.{HostHandsIn, GetsThrough}

-- at a moment client n has no room for the peer, so it doesn't list it
abbrev pub HasNoRoom : List Full → ℕ → ℕ → Ip6 → Type 0
HasNoRoom H n moment peer = has_room (mentions (journal n H).entries) moment peer ≡ false

-- THE SENDER

-- as a first packet, but client n has no room for client m, whose address has no cone bit
-- Premise: a first packet that the sender has no room for: `sender` and `receiver` are clients, `apart` behind
-- different NATs, settled both, `sender_settled` and `receiver_settled`; the sender is `full`; the receiver's address
-- is `plain`, without the cone bit; and the packet is `handed` in.
pub record IsTurnedAway (lab : Lab) (H : List Full) (r : Full) (n m : ℕ) (a b : ClientNode) (own other : Ip6) (x : List ℕ) : Type 0 where
  pub sender : client_at lab.topology n ≡ Some a
  pub receiver : client_at lab.topology m ≡ Some b
  pub apart : a.nat ≢ b.nat
  pub sender_settled : IsSettled lab H n a own
  pub receiver_settled : IsSettled lab H m b other
  pub full : HasNoRoom H n (now H) other
  pub plain : has_cone other ≡ false
  pub handed : HostHandsIn r n own other x

-- the sender drops it, and it draws nothing: so no delivery can follow, none is left out, and it doesn't get through
pub record IsDropped (H : List Full) (r : Full) (m : ℕ) (own other : Ip6) (x : List ℕ) (later : List Full) : Type 0 where
  pub dropped : r.fate ≡ fate.PeersFull
  pub nothing : r.made ≡ []
  pub alone : later ≡ []
  pub kept_back : GetsThrough H r m own other x later → ⊥

-- where its sender has no room for the receiver, which isn't cone, it is dropped
abbrev pub FullSenderDrops : Type 0
FullSenderDrops = (d : Draws) (t : TopologyState) (H : List Full) (r : Full) (later : List Full) → IsTopology t
    → Grown (flat_lab d t) (later ++ r ∷ H) → (n m : ℕ) (a b : ClientNode) (own other : Ip6) (x : List ℕ)
    → IsTurnedAway (flat_lab d t) H r n m a b own other x → AreFresh r later → IsDropped H r m own other x later

-- THE RECEIVER

-- client m, which is b, was given a datagram whose packet is from another client, for which it had no room
-- Premise: a datagram that the receiver has no room for: by its `act` it was given the `datagram`, whose packet has
-- another client's address as its `source`, a `teredo` one, for which it is `full`.
pub record IsUnheard (lab : Lab) (H : List Full) (q : Full) (m : ℕ) (b : ClientNode) (peer : Ip6) : Type 0 where
  pub entry : Entry
  pub act : IsActOf lab H q m (client b) entry
  pub from : Ep
  pub bytes : List ℕ
  pub datagram : entry.input ≡ arrived from bytes
  pub source : source_in bytes ≡ Some peer
  pub teredo : is_teredo peer ≡ true
  pub full : HasNoRoom H m q.moment peer

-- it answers no bubble, and its host is handed nothing
abbrev pub FullReceiverHearsNothing : Type 0
FullReceiverHearsNothing = (lab : Lab) (H : List Full) (q : Full) (m : ℕ) (b : ClientNode) (peer : Ip6) → IsUnheard lab H q m b peer
    → (q.made ≡ []) × (q.handed ≡ None)
