-- Packets from one client to another, both settled along their ways: they arrive where the outermost NATs of the two differ, in
-- whatever order the datagrams that they draw are delivered (RFC 4380, sections 5.2.3, 5.2.4 and 5.2.6). Where no NAT is behind
-- another one that is what is said of settled clients.
use Rattle.std.specs.Prelude.{◌≡◌, ◌≢◌, ℕ, false, List, ◌∷◌, ◌++◌, Contains, Some}
use Rattle.td_base.specs.declared.ipv6.Ip6.{Ip6}
use Rattle.teredo_addr.specs.Teredo.{has_cone}
use Rattle.peer_list.specs.Judged.{is_fresh}
use Rattle.topology.specs.declared.client_node.ClientNode.{ClientNode}
use Rattle.topology.specs.Rules.{IsTopology}
use Rattle.topology.specs.Topology.{client_at}
use Rattle.history.specs.Full.{Full}
use Rattle.legal.specs.Lab.{Lab}
use Rattle.legal.specs.Past.{now}
use Rattle.legal.specs.Legal.{Grown}
use Rattle.theory_origins.specs.Sources.{outermost}
use Rattle.theory_ways.specs.Ways.{IsChained}
use Rattle.theory_ways.specs.SettledAlong.{IsSettledAlong}
use Rattle.theory_first_packets.specs.Schedules.{AreFresh, IsComplete}
use Rattle.theory_first_packets.specs.FirstPacket.{IsNew, HostHandsIn, GetsThrough}
use Rattle.theory_first_packets.specs.MayMeet.{known_by, IsReadyFor, IsUnbarredFor}
use Rattle.theory_first_packets.specs.Courses.{fates_of, courses}

-- STRANGERS

-- *strangers*: two settled clients of which neither lists the other, and each has room for it. A first packet goes from
-- one to the other.
-- *behind different NATs*: two clients whose outermost NATs differ; where no NAT is behind another one, whose NATs do.
-- client n, which is a, has the address own, and client m, which is b, the address other. Their outermost NATs differ, and they
-- are settled along their ways, and new to each other
-- Premise: the same along ways: `sender` and `receiver` are clients; their outermost NATs differ, `apart`; both are
-- settled along their ways, `sender_settled` and `receiver_settled`; and each is new to the other, `sender_new` and
-- `receiver_new`.
pub record AreStrangersAlong (lab : Lab) (H : List Full) (n m : ℕ) (a b : ClientNode) (own other : Ip6) : Type 0 where
  pub sender : client_at lab.topology n ≡ Some a
  pub receiver : client_at lab.topology m ≡ Some b
  pub apart : outermost lab a ≢ outermost lab b
  pub sender_settled : IsSettledAlong lab H n a own
  pub receiver_settled : IsSettledAlong lab H m b other
  pub sender_new : IsNew H n other
  pub receiver_new : IsNew H m own

-- in the record after H the host of client n hands in x for client m
-- Premise: See `IsFirstPacket`.
pub record IsFirstPacketAlong (lab : Lab) (H : List Full) (r : Full) (n m : ℕ) (a b : ClientNode) (own other : Ip6) (x : List ℕ) : Type 0 where
  pub clients : AreStrangersAlong lab H n m a b own other
  pub handed : HostHandsIn r n own other x

-- it is carried in the schedule after it, where this is fresh: with the bounds of clients behind one NAT each
abbrev pub FirstPacketArrivesAlong : Lab → List Full → Full → List Full → Type 0
FirstPacketArrivesAlong lab H r later = (n m : ℕ) (a b : ClientNode) (own other : Ip6) (x : List ℕ)
    → IsFirstPacketAlong lab H r n m a b own other x → AreFresh r later → GetsThrough H r m own other x later

-- and where that is complete it takes one of the courses
abbrev pub TakesACourseAlong : Lab → List Full → Full → List Full → Type 0
TakesACourseAlong lab H r later = (n m : ℕ) (a b : ClientNode) (own other : Ip6) (x : List ℕ)
    → IsFirstPacketAlong lab H r n m a b own other x → AreFresh r later → IsComplete H r later
    → Contains (courses (has_cone own) (has_cone other)) (fates_of later)

-- CLIENTS THAT MAY MEET

-- as `MayMeet`, along their ways
-- Premise: two clients before any packet of one to the other, along ways: `sender` and `receiver` are clients; their
-- outermost NATs differ, `apart`; both are settled along their ways, `sender_settled` and `receiver_settled`; and what
-- they know of each other is as above: `stale`, `receiver_ready`, `sender_ready`, `sender_unbarred` and
-- `receiver_unbarred`.
pub record MayMeetAlong (lab : Lab) (H : List Full) (n m : ℕ) (a b : ClientNode) (own other : Ip6) : Type 0 where
  pub sender : client_at lab.topology n ≡ Some a
  pub receiver : client_at lab.topology m ≡ Some b
  pub apart : outermost lab a ≢ outermost lab b
  pub sender_settled : IsSettledAlong lab H n a own
  pub receiver_settled : IsSettledAlong lab H m b other
  pub stale : is_fresh (now H) (known_by H n other) ≡ false
  pub receiver_ready : IsReadyFor H m own
  pub sender_ready : has_cone other ≡ false → IsReadyFor H n other
  pub sender_unbarred : has_cone other ≡ false → IsUnbarredFor H n other
  pub receiver_unbarred : has_cone other ≡ false → IsUnbarredFor H m own

-- the record hands in a packet between two clients that may meet
-- Premise: See `IsFirstPacket`.
pub record IsNextPacketAlong (lab : Lab) (H : List Full) (r : Full) (n m : ℕ) (a b : ClientNode) (own other : Ip6) (x : List ℕ) : Type 0 where
  pub clients : MayMeetAlong lab H n m a b own other
  pub handed : HostHandsIn r n own other x

-- it is carried as a first packet is
abbrev pub NextPacketArrivesAlong : Lab → List Full → Full → List Full → Type 0
NextPacketArrivesAlong lab H r later = (n m : ℕ) (a b : ClientNode) (own other : Ip6) (x : List ℕ)
    → IsNextPacketAlong lab H r n m a b own other x → AreFresh r later → GetsThrough H r m own other x later

-- IN EACH HISTORY

-- of a topology that keeps its rules, with a chain that does
abbrev pub OfEachSchedule : (Lab → List Full → Full → List Full → Type 0) → Type 0
OfEachSchedule P = (lab : Lab) (H : List Full) (r : Full) (later : List Full) → IsTopology lab.topology → IsChained lab → Grown lab (later ++ r ∷ H)
    → P lab H r later

-- so it is at each record of a history, whatever comes after the schedule
pub record CarriesAlong (lab : Lab) (H : List Full) : Type 0 where
  pub first : (rest later : List Full) (r : Full) (before : List Full) → H ≡ rest ++ (later ++ r ∷ before) → FirstPacketArrivesAlong lab before r later
  pub course : (rest later : List Full) (r : Full) (before : List Full) → H ≡ rest ++ (later ++ r ∷ before) → TakesACourseAlong lab before r later

-- so it is at each record of every history
abbrev pub HistoriesCarryAlong : Type 0
HistoriesCarryAlong = (lab : Lab) (H : List Full) → IsTopology lab.topology → IsChained lab → Grown lab H → CarriesAlong lab H
