-- How many deliveries follow by what there is: nine for an entry, eight for a packet that waits in a client, five for one that
-- waits in a relay.
use Rattle.std.specs.Prelude.{◌≤◌, ℕ, ◌+◌, ◌*◌, List, [], ◌∷◌, ◌++◌, length}
use Rattle.std.specs.List.{AllByRecursion}
use Rattle.client_rules.specs.Bearings as client_bearings
use Rattle.relay_rules.specs.Bearings.{relay_mentions}
use Rattle.topology.specs.Rows.{TopologyState}
use Rattle.topology.specs.declared.node.Node.{Node}
use Rattle.topology.specs.declared.node.Node.TheVariants.{Client as client, Relay as relay}
use Rattle.topology.specs.Rules.{IsTopology}
use Rattle.topology.specs.Topology.{nodes}
use Rattle.history.specs.Full.{Full}
use Rattle.legal.specs.Lab.{Lab}
use Rattle.legal.specs.Past.{now, journal}
use Rattle.legal.specs.Legal.{Grown}
use Rattle.weights.specs.Burden.{undelivered_items, waiting_packets}
use Rattle.theory_storms.specs.Deliveries.{AreNew, GoesOnSettling}
use Rattle.theory_storms.specs.Follow.{FOLLOW_MAX}

-- what can follow from a packet that waits in a client: its deliveries, and those of all that it draws
abbrev pub CLIENT_FOLLOW_MAX : ℕ
CLIENT_FOLLOW_MAX = 8

-- and from one that waits in a relay
abbrev pub RELAY_FOLLOW_MAX : ℕ
RELAY_FOLLOW_MAX = 5

-- how many packets wait in node n, where it is a client, and where it is a relay
abbrev pub waiting_in_client : List Full → ℕ → Node → ℕ
waiting_in_client H n (client c) = length (waiting_packets (client_bearings.mentions (journal n H).entries) (now H))
waiting_in_client H n _ = 0

-- how many packets wait at the node, where it is a relay
abbrev pub waiting_in_relay : List Full → ℕ → Node → ℕ
waiting_in_relay H n (relay r) = length (waiting_packets (relay_mentions (journal n H).entries) (now H))
waiting_in_relay H n _ = 0

-- over nodes, which are numbered from n on
abbrev pub sum_from : (ℕ → Node → ℕ) → ℕ → List Node → ℕ
sum_from count n [] = 0
sum_from count n (a ∷ rest) = count n a + sum_from count (n + 1) rest

-- *by kind*: nine for an undelivered entry, eight for a packet that waits at a client, five for one at a relay.
-- what can follow in all
abbrev pub burden_by_kind : TopologyState → List Full → ℕ
burden_by_kind t H = FOLLOW_MAX * length (undelivered_items H) + CLIENT_FOLLOW_MAX * sum_from (waiting_in_client H) 0 (nodes t)
    + RELAY_FOLLOW_MAX * sum_from (waiting_in_relay H) 0 (nodes t)

-- no more than these
abbrev pub AreFewByKind : TopologyState → List Full → List Full → Type 0
AreFewByKind t H later = length later ≤ burden_by_kind t H

-- where each record delivers an entry for the first time
abbrev pub FewByKind : Type 0
FewByKind = (lab : Lab) (H later : List Full) → IsTopology lab.topology → Grown lab (later ++ H) → AreNew H later → AreFewByKind lab.topology H later

-- so a `settle` goes on only so often
abbrev pub SettleByKind : Type 0
SettleByKind = (lab : Lab) (H later : List Full) → IsTopology lab.topology → Grown lab (later ++ H) → AllByRecursion GoesOnSettling later
    → AreFewByKind lab.topology H later
