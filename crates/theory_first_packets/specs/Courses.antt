-- What happens on the way of a first packet, exactly: which fates the deliveries have, in their order (RFC 4380, sections 5.2.3,
-- 5.2.4 and 5.2.6).
use Rattle.std.specs.Prelude.{◌≡◌, ℕ, Bool, true, false, List, [], ◌∷◌, ◌++◌, Contains}
use Rattle.td_base.specs.declared.ipv6.Ip6.{Ip6}
use Rattle.teredo_addr.specs.Teredo.{has_cone}
use Rattle.teredo_node.specs.declared.fate.Fate.{Fate}
use Rattle.teredo_node.specs.declared.fate.Fate.TheVariants.{NatClosed, ForwardOrigin, Indirect, Rule1, Rule1Bubble, Rule3, Rule3Bubble}
use Rattle.topology.specs.declared.client_node.ClientNode.{ClientNode}
use Rattle.topology.specs.Rows.{TopologyState}
use Rattle.topology.specs.Rules.{IsTopology}
use Rattle.history.specs.Full.{Full}
use Rattle.legal.specs.Lab.{Lab, Draws, flat_lab}
use Rattle.legal.specs.Legal.{Grown}
use Rattle.theory_first_packets.specs.Schedules.{AreFresh, IsComplete}
use Rattle.theory_first_packets.specs.FirstPacket.{IsFirstPacket}

-- *course of a first packet*: the fates of the deliveries of a complete fresh schedule after it, in their order.
-- the fates of a schedule, in the order of its deliveries
abbrev pub fates_of : List Full → List Fate
fates_of [] = []
fates_of (q ∷ later) = fates_of later ++ q.fate ∷ []

-- what may happen, where the sender's or the receiver's address has the cone bit or not. Where neither has, the sender's straight
-- bubble may come at any time: in the first two courses the receiver's NAT shuts it out. Where it comes third or fourth, the fates
-- are the same. A sender with the cone bit sends none, and a receiver with it needs none
abbrev pub courses : (from_cone to_cone : Bool) → List (List Fate)
courses from_cone true = (Rule3 ∷ []) ∷ []
courses true false = (ForwardOrigin ∷ Indirect ∷ Rule3Bubble ∷ Rule3 ∷ []) ∷ []
courses false false =
    (NatClosed ∷ ForwardOrigin ∷ Indirect ∷ Rule3Bubble ∷ Rule3 ∷ [])
    ∷ (ForwardOrigin ∷ NatClosed ∷ Indirect ∷ Rule3Bubble ∷ Rule3 ∷ [])
    ∷ (Rule3Bubble ∷ ForwardOrigin ∷ Indirect ∷ Rule3Bubble ∷ Rule1 ∷ [])
    ∷ (ForwardOrigin ∷ Rule3Bubble ∷ Indirect ∷ Rule3Bubble ∷ Rule1 ∷ [])
    ∷ (ForwardOrigin ∷ Indirect ∷ Rule3Bubble ∷ Rule3Bubble ∷ Rule1 ∷ [])
    ∷ (ForwardOrigin ∷ Indirect ∷ Rule3Bubble ∷ Rule3 ∷ Rule1Bubble ∷ [])
    ∷ []

-- the schedule after a first packet takes one of these courses, where it is fresh and complete: so it has five deliveries, four
-- or one
abbrev pub TakesACourse : Lab → List Full → Full → List Full → Type 0
TakesACourse lab H r later = (n m : ℕ) (a b : ClientNode) (own other : Ip6) (x : List ℕ)
    → IsFirstPacket lab H r n m a b own other x → AreFresh r later → IsComplete H r later
    → Contains (courses (has_cone own) (has_cone other)) (fates_of later)

-- and takes one of the courses
abbrev pub EachTakesACourse : Type 0
EachTakesACourse = (d : Draws) (t : TopologyState) (H : List Full) (r : Full) (later : List Full) → IsTopology t
    → Grown (flat_lab d t) (later ++ r ∷ H) → TakesACourse (flat_lab d t) H r later

-- so it is at each record, whatever comes after the schedule
abbrev pub FirstPacketsTakeCourses : Lab → List Full → Type 0
FirstPacketsTakeCourses lab H = (rest later : List Full) (r : Full) (before : List Full) → H ≡ rest ++ (later ++ r ∷ before)
    → TakesACourse lab before r later

-- in each history of a topology that keeps its rules
abbrev pub HistoriesTakeCourses : Type 0
HistoriesTakeCourses = (d : Draws) (t : TopologyState) (H : List Full) → IsTopology t → Grown (flat_lab d t) H
    → FirstPacketsTakeCourses (flat_lab d t) H
