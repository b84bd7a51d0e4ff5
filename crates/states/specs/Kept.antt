-- What each node keeps at a moment, by what happened to it until then.
use Rattle.std.specs.Prelude.{ℕ, ◌+◌, Bool, not, nat_lt, if◌then◌else◌, List, [], ◌∷◌, ◌++◌, length, map, filter, filter_map, reverse, Option, Some, None, option_map}
use Rattle.std.specs.List.{flat_map}
use Rattle.std.specs.Ordering.{is_lt}
use Rattle.td_base.specs.declared.ipv6.Ip6.{Ip6}
use Rattle.td_base.specs.declared.endpoint.Ep.{Ep}
use Rattle.td_base.specs.Ep.{same_ep}
use Rattle.td_base.specs.Ip6.{cmp_ip6}
use Rattle.nat_kinds.specs.declared.kind.NatKind.{NatKind}
use Rattle.nat_kinds.specs.declared.kind.NatKind.TheVariants.{Cone, Restricted, Port, Symmetric}
use Rattle.nat_kinds.specs.declared.settings.NatSettings.{NatSettings}
use Rattle.nat_kinds.specs.declared.outgoing.Outward.{Outward}
use Rattle.nat_kinds.specs.History.{NatEntry, counting}
use Rattle.nat_kinds.specs.Kinds.{is_symmetric}
use Rattle.nat_kinds.specs.Mappings.{latest}
use Rattle.nat_kinds.specs.Way.{asked_way, same_way, endpoint_number}
use Rattle.teredo_node.specs.Journal.{Journal}
use Rattle.peer_list.specs.Judged.{young_tries}
use Rattle.peer_list.specs.Listed.{listed}
use Rattle.peer_list.specs.Mentions.{Mention}
use Rattle.peer_list.specs.Peers.{Peer, known}
use Rattle.qualify.specs.Qualification.{qualification}
use Rattle.client_rules.specs.Bearings.{mentions}
use Rattle.client_rules.specs.Journals.{client_due}
use Rattle.relay_rules.specs.Bearings.{relay_mentions}
use Rattle.relay_rules.specs.Journals.{relay_due}
use Rattle.topology.specs.Rows.{TopologyState}
use Rattle.topology.specs.declared.client_node.ClientNode.{ClientNode}
use Rattle.topology.specs.declared.node.Node.{Node}
use Rattle.topology.specs.declared.node.Node.TheVariants.{Server as server, Nat as nat, Client as client, Relay as relay, Native as native}
use Rattle.topology.specs.Topology.{nodes, nat_settings}
use Rattle.topology.specs.Chains.{NatPasts}
use Rattle.legal.specs.Settings.{client_settings}
use Rattle.states.specs.Orders.{in_order}
use Rattle.states.specs.Facts.{Whom, with_address, with_endpoint, PeerFact, Fact, nothing, holds_port, lets, client_is, relay_is, client_knows, relay_knows, NodeFact}

-- A NAT

-- the port of a datagram that a NAT let out: it lasts for the NAT's idle time from then on
abbrev pub port_fact : NatSettings → Outward → Fact
port_fact s e = holds_port e.port e.inside (if is_symmetric s.kind then Some e.dst else None) (e.moment.0 + s.idle)

-- Whom a NAT of this kind lets in, at the port of a datagram to here, for as long as the port lasts: a restricted one lets in its
-- address, a port restricted one its endpoint. A cone NAT lets in anyone, and a symmetric one only the destination that the port
-- is for, so of these nothing is said (RFC 3489, section 5).
abbrev pub whom_asked : NatKind → Ep → Option Whom
whom_asked Cone dst = None
whom_asked Restricted dst = Some (with_address dst.ip)
whom_asked Port dst = Some (with_endpoint dst)
whom_asked Symmetric dst = None

-- whom a datagram has the NAT let in at a port, and until when
abbrev pub lets_fact : NatSettings → ℕ → Outward → Option Fact
lets_fact s port e = option_map (λ (w : Whom). lets port w (e.moment.0 + s.idle)) (whom_asked s.kind e.dst)

-- Both datagrams ask the same of the NAT.
abbrev pub asks_alike : NatKind → Outward → Outward → Bool
asks_alike kind e o = same_way (asked_way kind e.inside e.dst) (asked_way kind o.inside o.dst)

-- of these datagrams, the latest first, the latest of those that ask the same
abbrev pub latest_asked : NatKind → List Outward → List Outward
latest_asked kind [] = []
latest_asked kind (e ∷ outs) = e ∷ filter (λ o. not (asks_alike kind e o)) (latest_asked kind outs)

-- The first datagram has the lower port.
abbrev pub has_lower_port : Outward → Outward → Bool
has_lower_port e o = nat_lt e.port o.port

-- The first datagram's destination is lower, by its address and then by its port.
abbrev pub has_lower_destination : Outward → Outward → Bool
has_lower_destination e o = nat_lt (endpoint_number e.dst) (endpoint_number o.dst)

-- whom a NAT lets in at the port of a mapping, the lowest first, where these are the datagrams that still count
abbrev pub lets_facts : NatSettings → List Outward → Outward → List Fact
lets_facts s outs m = filter_map (lets_fact s m.port)
    (in_order has_lower_destination (latest_asked s.kind (filter (λ (e : Outward). same_ep e.inside m.inside) outs)))

-- a NAT's live ports, the lowest first, each with whom it lets in there
abbrev pub port_facts : NatSettings → List Outward → List Fact
port_facts s outs = flat_map (λ (m : Outward). port_fact s m ∷ lets_facts s outs m) (in_order has_lower_port (latest s.kind outs))

-- these facts, or, where there are none, that there is nothing
abbrev pub or_nothing : List Fact → List Fact
or_nothing [] = nothing ∷ []
or_nothing (f ∷ fs) = f ∷ fs

-- what a NAT with this history keeps at a moment
abbrev pub nat_facts : NatSettings → List NatEntry → ℕ → List Fact
nat_facts s h n = or_nothing (port_facts s (counting s.idle n h))

-- PEERS

-- what is told of a peer of whom this is known at a moment: only the tries that count are
abbrev pub peer_fact : ℕ → Ip6 → Peer → PeerFact
peer_fact n p peer = record {
  who = p;
  trusted = peer.trusted;
  heard = peer.heard;
  touched = peer.touched;
  tries = reverse (young_tries n peer);
  nonce = peer.nonce;
  waits = length peer.waiting;
  held = length peer.held;
}

-- what these mentions make known of a peer at a moment
abbrev pub peer_fact_of : List Mention → ℕ → Ip6 → PeerFact
peer_fact_of j n p = peer_fact n p (known j n p)

-- The first address is lower.
abbrev pub is_lower_ip6 : Ip6 → Ip6 → Bool
is_lower_ip6 p q = is_lt (cmp_ip6 p q)

-- the peers that are listed at a moment, the lowest address first
abbrev pub listed_in_order : List Mention → ℕ → List Ip6
listed_in_order j n = in_order is_lower_ip6 (listed j n)

-- a fact on each peer that is listed at a moment, the lowest address first
abbrev pub peer_facts : (PeerFact → Fact) → List Mention → ℕ → List Fact
peer_facts knows j n = map (λ (p : Ip6). knows (peer_fact_of j n p)) (listed_in_order j n)

-- A CLIENT AND A RELAY

-- a client's phase, its address, and when it is due, by its journal at a moment
abbrev pub client_fact : TopologyState → ClientNode → Journal → ℕ → Fact
client_fact t c j n = client_is (qualification (client_settings t c) j).phase (qualification (client_settings t c) j).address (client_due (client_settings t c) j n)

-- the same, and what the client knows of each listed peer
abbrev pub client_facts : TopologyState → ClientNode → Journal → ℕ → List Fact
client_facts t c j n = client_fact t c j n ∷ peer_facts client_knows (mentions j.entries) n

-- when a relay is due, by its journal at a moment
abbrev pub relay_fact : Journal → ℕ → Fact
relay_fact j n = relay_is (relay_due j.entries n)

-- the same, and what the relay knows of each listed peer
abbrev pub relay_facts : Journal → ℕ → List Fact
relay_facts j n = relay_fact j n ∷ peer_facts relay_knows (relay_mentions j.entries) n

-- EACH NODE

-- What a node keeps at a moment, by its history as a NAT or by its journal. A server and a native host keep nothing.
abbrev pub facts_of : TopologyState → List NatEntry → Journal → ℕ → Node → List Fact
facts_of t h j n (server a) = []
facts_of t h j n (nat a) = nat_facts (nat_settings a) h n
facts_of t h j n (client c) = client_facts t c j n
facts_of t h j n (relay r) = relay_facts j n
facts_of t h j n (native a) = []

-- a fact on the node of a number
abbrev pub at_node : ℕ → Fact → NodeFact
at_node k f = record { node = k; fact = f }

-- what the nodes from number k on keep at a moment
abbrev pub facts_from : TopologyState → NatPasts → (ℕ → Journal) → ℕ → ℕ → List Node → List NodeFact
facts_from t h j n k [] = []
facts_from t h j n k (a ∷ rest) = map (at_node k) (facts_of t (h k) (j k) n a) ++ facts_from t h j n (k + 1) rest

-- *kept*, of a fact: what each NAT, client and relay keeps at a moment, in the order of their numbers. `h` has the histories of
-- NATs, and `j` the journals of nodes.
abbrev pub all_facts : TopologyState → NatPasts → (ℕ → Journal) → ℕ → List NodeFact
all_facts t h j n = facts_from t h j n 0 (nodes t)
