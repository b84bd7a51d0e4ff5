-- First packets that don't arrive since one of the two clients lists 256 others already: there are such histories, in which
-- all else is as the theorem on first packets wants it. So neither premise on room can be left out.
use Rattle.std.specs.Prelude.{◌≡◌, ◌≢◌, ℕ, true, false, List, ◌∷◌, ◌++◌, length, Some}
use Rattle.td_base.specs.declared.ipv6.Ip6.{Ip6}
use Rattle.peer_list.specs.Listed.{is_listed, listed, has_room}
use Rattle.client_rules.specs.Bearings.{mentions}
use Rattle.topology.specs.declared.client_node.ClientNode.{ClientNode}
use Rattle.topology.specs.Rows.{TopologyState}
use Rattle.topology.specs.Rules.{IsTopology}
use Rattle.topology.specs.Topology.{client_at}
use Rattle.history.specs.Full.{Full}
use Rattle.legal.specs.Lab.{Lab, Draws, flat_lab}
use Rattle.legal.specs.Past.{now, journal}
use Rattle.legal.specs.Legal.{Grown}
use Rattle.theory_settled.specs.Settled.{IsSettled}
use Rattle.theory_first_packets.specs.Schedules.{AreFresh, IsComplete}
use Rattle.theory_first_packets.specs.FirstPacket.{HostHandsIn, IsFirstPacket, GetsThrough}

-- A TRIAL

-- in the record after these the host of client n, which is a and has the address own, hands in the packet x for client m,
-- which is b and has the address other; and some records later
pub record Trial : Type 0 where
  pub draws : Draws
  pub topology : TopologyState
  pub before : List Full
  pub handing : Full
  pub later : List Full
  pub n : ℕ
  pub m : ℕ
  pub a : ClientNode
  pub b : ClientNode
  pub own : Ip6
  pub other : Ip6
  pub x : List ℕ

-- no NAT is behind another one
abbrev pub trial_lab : Trial → Lab
trial_lab t = flat_lab t.draws t.topology

-- client n doesn't list the peer before it
abbrev pub IsUnlisted : Trial → ℕ → Ip6 → Type 0
IsUnlisted t n peer = is_listed peer (now t.before) (mentions (journal n t.before).entries) ≡ false

-- it has room for the peer
abbrev pub HasRoomFor : Trial → ℕ → Ip6 → Type 0
HasRoomFor t n peer = has_room (mentions (journal n t.before).entries) (now t.before) peer ≡ true

-- it lists so many
abbrev pub ListsMany : Trial → ℕ → ℕ → Type 0
ListsMany t n many = length (listed (mentions (journal n t.before).entries) (now t.before)) ≡ many

-- fair is one with a legal history, and a fresh and complete schedule
pub record IsFairTrial (t : Trial) : Type 0 where
  pub rules : IsTopology t.topology
  pub grown : Grown (trial_lab t) (t.later ++ t.handing ∷ t.before)
  pub fresh : AreFresh t.handing t.later
  pub complete : IsComplete t.before t.handing t.later

-- it is a first packet, but that nothing is said of room
pub record IsFirstButForRoom (t : Trial) : Type 0 where
  pub sender : client_at t.topology t.n ≡ Some t.a
  pub receiver : client_at t.topology t.m ≡ Some t.b
  pub apart : t.a.nat ≢ t.b.nat
  pub sender_settled : IsSettled (trial_lab t) t.before t.n t.a t.own
  pub receiver_settled : IsSettled (trial_lab t) t.before t.m t.b t.other
  pub sender_unlisted : IsUnlisted t t.n t.other
  pub receiver_unlisted : IsUnlisted t t.m t.own
  pub handed : HostHandsIn t.handing t.n t.own t.other t.x

-- so with room at both it is a first packet
abbrev pub IsFirstWithRoom : Type 0
IsFirstWithRoom = (t : Trial) → IsFirstButForRoom t → HasRoomFor t t.n t.other → HasRoomFor t t.m t.own
    → IsFirstPacket (trial_lab t) t.before t.handing t.n t.m t.a t.b t.own t.other t.x

-- it isn't carried
abbrev pub IsNotCarried : Trial → Type 0
IsNotCarried t = GetsThrough t.before t.handing t.m t.own t.other t.x t.later → ⊥

-- A FULL SENDER, A FULL RECEIVER

-- the sender lists 256 others, and the receiver has room
pub record FullSenderFails : Type 0 where
  pub trial : Trial
  pub fair : IsFairTrial trial
  pub first : IsFirstButForRoom trial
  pub sender_is_full : ListsMany trial trial.n 256
  pub receiver_has_room : HasRoomFor trial trial.m trial.own
  pub fails : IsNotCarried trial

-- the receiver lists 256 others, and the sender has room
pub record FullReceiverFails : Type 0 where
  pub trial : Trial
  pub fair : IsFairTrial trial
  pub first : IsFirstButForRoom trial
  pub sender_has_room : HasRoomFor trial trial.n trial.other
  pub receiver_is_full : ListsMany trial trial.m 256
  pub fails : IsNotCarried trial
