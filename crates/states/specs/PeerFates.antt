-- Whose peer a record concerned, by its fate: the latest peer of the node's journal, which is listed then.
use Rattle.std.specs.Prelude.{◌≡◌, ℕ, Bool, true, false, List, [], ◌∷◌, Some}
use Rattle.td_base.specs.declared.ipv6.Ip6.{Ip6}
use Rattle.teredo_node.specs.declared.fate.Fate.{Fate}
use Rattle.teredo_node.specs.declared.fate.Fate.TheVariants as fate
use Rattle.teredo_node.specs.Journal.{Journal}
use Rattle.peer_list.specs.Mentions.{Mention, latest_peer}
use Rattle.peer_list.specs.Peers.{Peer, peer_at}
use Rattle.client_rules.specs.Bearings.{mention, mentions}
use Rattle.relay_rules.specs.Bearings.{relay_mention, relay_mentions}
use Rattle.topology.specs.declared.node.Node.{Node}
use Rattle.topology.specs.declared.node.Node.TheVariants.{Server as server, Nat as nat, Client as client, Relay as relay, Native as native}
use Rattle.topology.specs.Topology.{node_at}
use Rattle.history.specs.Full.{Full}
use Rattle.legal.specs.Lab.{Lab}
use Rattle.legal.specs.Past.{journal}
use Rattle.legal.specs.Legal.{Follows}
use Rattle.states.specs.Facts.{PeerFact, Fact, client_knows, relay_knows}
use Rattle.states.specs.Kept.{peer_fact}
use Rattle.states.specs.Concerned.{peer_concerned}

-- A record with this fate changes what a client says of a peer (RFC 4380, sections 5.2.3, 5.2.4 and 5.2.6).
abbrev pub changes_peer : Fate → Bool
changes_peer fate.Sent = true
changes_peer fate.Queued = true
changes_peer fate.Indirect = true
changes_peer fate.Rule1 = true
changes_peer fate.Rule1Bubble = true
changes_peer fate.Rule2 = true
changes_peer fate.Rule3 = true
changes_peer fate.Rule3Bubble = true
changes_peer fate.HeldTest = true
changes_peer fate.SuspiciousTest = true
changes_peer fate.Held = true
changes_peer fate.Bubbles = true
changes_peer fate.Test = true
changes_peer fate.GiveUp = true
changes_peer _ = false

-- The same, of a relay (RFC 4380, section 5.4).
abbrev pub changes_client : Fate → Bool
changes_client fate.Sent = true
changes_client fate.SentCone = true
changes_client fate.Queued = true
changes_client fate.FromClient = true
changes_client fate.FromClientBubble = true
changes_client fate.Unserved = true
changes_client fate.Bubbles = true
changes_client fate.GiveUp = true
changes_client _ = false

-- the fact on a node's latest peer, which is listed
pub record IsOnLatest (knows : PeerFact → Fact) (j : List Mention) (n : ℕ) (facts : List Fact) : Type 0 where
  pub who : Ip6
  pub latest : latest_peer j ≡ Some who
  pub peer : Peer
  pub listed : peer_at j n who ≡ Some peer
  pub is : facts ≡ knows (peer_fact n who peer) ∷ []

-- that fact, or none
abbrev pub IsOnLatestIf : Bool → (PeerFact → Fact) → List Mention → ℕ → List Fact → Type 0
IsOnLatestIf false knows j n facts = facts ≡ []
IsOnLatestIf true knows j n facts = IsOnLatest knows j n facts

-- of a record of a node, with the node's journal after the record; other nodes say nothing of peers
abbrev pub ConcernsLatest : Full → Journal → Node → Type 0
ConcernsLatest r j (server a) = Unit {0}
ConcernsLatest r j (nat a) = Unit {0}
ConcernsLatest r j (client c) = IsOnLatestIf (changes_peer r.fate) client_knows (mentions j.entries) r.moment
    (peer_concerned mention client_knows (mentions j.entries) r.moment r.entry)
ConcernsLatest r j (relay q) = IsOnLatestIf (changes_client r.fate) relay_knows (relay_mentions j.entries) r.moment
    (peer_concerned relay_mention relay_knows (relay_mentions j.entries) r.moment r.entry)
ConcernsLatest r j (native a) = Unit {0}

-- of each record that follows
abbrev pub LatestIsConcerned : Type 0
LatestIsConcerned = (lab : Lab) (H : List Full) (r : Full) (n : ℕ) (a : Node) → Follows lab H r → r.node ≡ Some n → node_at lab.topology n ≡ Some a
    → ConcernsLatest r (journal n (r ∷ H)) a
