-- How many deliveries follow: what the weights say, less what is eased. Nine from a packet for a relay, and four from a
-- datagram to one.
use Rattle.std.specs.Prelude.{◌≡◌, ◌≤◌, ◌<◌, ℕ, ◌+◌, ◌*◌, true, List, [], ◌∷◌, ◌++◌, length, Some}
use Rattle.std.specs.List.{AllByRecursion}
use Rattle.td_base.specs.declared.ipv6.Ip6.{Ip6}
use Rattle.td_base.specs.declared.endpoint.Ep.{Ep}
use Rattle.topology.specs.declared.relay_node.RelayNode.{RelayNode}
use Rattle.topology.specs.declared.node.Node.TheVariants.{Relay as relay}
use Rattle.topology.specs.Rows.{TopologyState}
use Rattle.topology.specs.Rules.{IsTopology}
use Rattle.topology.specs.Topology.{node_at}
use Rattle.history.specs.Full.{Item, udp, six, Full}
use Rattle.legal.specs.Lab.{Lab}
use Rattle.legal.specs.Legal.{Grown}
use Rattle.weights.specs.Burden.{undelivered_items, waits, burden}
use Rattle.theory_storms.specs.Deliveries.{DeliversNew, AreNew, GoesOnSettling}
use Rattle.weights.specs.Trust.{relay_trusts}
use Rattle.weights.specs.Eased.{EASE_MAX, eased_weight, burden_with, eased_burden}

-- what can follow from an entry, itself counted
abbrev pub FOLLOW_MAX : ℕ
FOLLOW_MAX = 9

-- and from a datagram to a relay
abbrev pub TO_RELAY_FOLLOW_MAX : ℕ
TO_RELAY_FOLLOW_MAX = 4

-- IN ALL

-- a client that a relay trusts stays trusted through such a delivery
abbrev pub TrustLasts : Type 0
TrustLasts = (lab : Lab) (H : List Full) (r : Full) (n : ℕ) (client : Ip6) → IsTopology lab.topology → Grown lab (r ∷ H) → DeliversNew H r
    → relay_trusts lab.topology H n client ≡ true → relay_trusts lab.topology (r ∷ H) n client ≡ true

-- each delivery of an entry that wasn't delivered before takes away more than it brings, with each ease
abbrev pub EachEases : Type 0
EachEases = (ease : ℕ) (lab : Lab) (H : List Full) (r : Full) → ease ≤ EASE_MAX → IsTopology lab.topology → Grown lab (r ∷ H) → DeliversNew H r
    → burden_with ease lab.topology (r ∷ H) < burden_with ease lab.topology H

-- so after H there are only so many, one after the other
abbrev pub FewFollow : Type 0
FewFollow = (lab : Lab) (H later : List Full) → IsTopology lab.topology → Grown lab (later ++ H) → AreNew H later
    → length later ≤ eased_burden lab.topology H

-- never more than the weights say
abbrev pub NoMoreThanBefore : Type 0
NoMoreThanBefore = (t : TopologyState) (H : List Full) → eased_burden t H ≤ burden t H

-- nine for each entry that is undelivered, and each packet that waits
abbrev pub NineForEach : Type 0
NineForEach = (lab : Lab) (H later : List Full) → IsTopology lab.topology → Grown lab (later ++ H) → AreNew H later
    → length later ≤ FOLLOW_MAX * (length (undelivered_items H) + length (waits lab.topology H))

-- so a `settle` goes on only so often
abbrev pub NineSettle : Type 0
NineSettle = (lab : Lab) (H later : List Full) → IsTopology lab.topology → Grown lab (later ++ H) → AllByRecursion GoesOnSettling later
    → length later ≤ FOLLOW_MAX * (length (undelivered_items H) + length (waits lab.topology H))

-- FROM ONE ENTRY ALONE

-- nothing else is undelivered, and no packet waits
-- Premise: an entry beside which nothing is `undelivered` and nothing `waiting`.
pub record IsAlone (t : TopologyState) (H : List Full) (x : Item) : Type 0 where
  pub undelivered : undelivered_items H ≡ x ∷ []
  pub waiting : waits t H ≡ []

-- no more than it weighs, eased
abbrev pub FollowFromOne : Type 0
FollowFromOne = (lab : Lab) (H later : List Full) (x : Item) → IsTopology lab.topology → Grown lab (later ++ H) → IsAlone lab.topology H x
    → AreNew H later → length later ≤ eased_weight lab.topology H x

-- a packet for a relay
abbrev pub NineFollow : Type 0
NineFollow = (lab : Lab) (H later : List Full) (n : ℕ) (x : List ℕ) → IsTopology lab.topology → Grown lab (later ++ H)
    → IsAlone lab.topology H (six (Some n) x) → AreNew H later → length later ≤ FOLLOW_MAX

-- a datagram to a relay, whoever sent it
abbrev pub FourFollow : Type 0
FourFollow = (lab : Lab) (H later : List Full) (src : Ep) (n : ℕ) (r : RelayNode) (x : List ℕ) → IsTopology lab.topology → Grown lab (later ++ H)
    → node_at lab.topology n ≡ Some (relay r) → IsAlone lab.topology H (udp src r.at x) → AreNew H later → length later ≤ TO_RELAY_FOLLOW_MAX
