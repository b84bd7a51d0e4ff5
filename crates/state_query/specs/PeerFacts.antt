-- What a client or a relay knows of a peer that it lists, and that a line tells it.
use Rattle.std.specs.Prelude.{◌≡◌, ℕ, Bool, true, false, List, [], ◌∷◌, Option, Some, None, option_map}
use Rattle.td_base.specs.declared.ipv6.Ip6.{Ip6}
use Rattle.teredo_node.specs.Journal.{Journal}
use Rattle.peer_list.specs.Mentions.{Mention}
use Rattle.peer_list.specs.Peers.{Peer, peer_at}
use Rattle.client_rules.specs.Bearings.{mention, mentions}
use Rattle.relay_rules.specs.Bearings.{relay_mention, relay_mentions}
use Rattle.topology.specs.Rows.{TopologyState}
use Rattle.topology.specs.declared.node.Node.{Node}
use Rattle.topology.specs.declared.node.Node.TheVariants.{Server as server, Nat as nat, Client as client, Relay as relay, Native as native}
use Rattle.history.specs.Full.{Full}
use Rattle.states.specs.Facts.{PeerFact, Fact, client_knows, relay_knows}
use Rattle.states.specs.Kept.{peer_fact, at_node}
use Rattle.states.specs.Concerned.{peer_concerned}
use Rattle.states.specs.StateLines.{fact_line}

-- what these mentions make known of an address at a moment, where it is listed
abbrev pub listed_fact : (PeerFact → Fact) → List Mention → ℕ → Ip6 → Option Fact
listed_fact knows j n p = option_map (λ (peer : Peer). knows (peer_fact n p peer)) (peer_at j n p)

-- after this journal, at n, of an address that the node lists; other nodes list nobody
abbrev pub known_fact : Journal → ℕ → Ip6 → Option Node → Option Fact
known_fact j n p None = None
known_fact j n p (Some (server a)) = None
known_fact j n p (Some (nat a)) = None
known_fact j n p (Some (client c)) = listed_fact client_knows (mentions j.entries) n p
known_fact j n p (Some (relay r)) = listed_fact relay_knows (relay_mentions j.entries) n p
known_fact j n p (Some (native h)) = None

-- what a record changed of what its node says of a peer: a fact, or none. The journal is the node's after the record
abbrev pub changed_facts : Full → Journal → Option Node → List Fact
changed_facts r j None = []
changed_facts r j (Some (server a)) = []
changed_facts r j (Some (nat a)) = []
changed_facts r j (Some (client c)) = peer_concerned mention client_knows (mentions j.entries) r.moment r.entry
changed_facts r j (Some (relay q)) = peer_concerned relay_mention relay_knows (relay_mentions j.entries) r.moment r.entry
changed_facts r j (Some (native h)) = []

-- the line tells the one fact about node k, if there is one
abbrev pub TellsFacts : TopologyState → Option ℕ → ℕ → ℕ → List Fact → Bool → List ℕ → Type 0
TellsFacts t i m k [] told line = told ≡ false
TellsFacts t i m k (f ∷ fs) told line = (told ≡ true) × (line ≡ fact_line t i m (at_node k f)) × (fs ≡ [])
