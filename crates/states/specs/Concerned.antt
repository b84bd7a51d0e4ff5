-- What a record concerned: its node, and each NAT that let something of it out.
use Rattle.std.specs.Prelude.{ℕ, Bool, true, false, ◌||◌, List, [], ◌∷◌, ◌++◌, map, reverse, Option, Some, None, option_map, option_to_list}
use Rattle.std.specs.List.{flat_map}
use Rattle.td_base.specs.declared.ipv6.Ip6.{Ip6}
use Rattle.teredo_node.specs.Journal.{Entry, Journal, is_changed}
use Rattle.nat_kinds.specs.declared.settings.NatSettings.{NatSettings}
use Rattle.nat_kinds.specs.declared.outgoing.Outward.{Outward}
use Rattle.peer_list.specs.Mentions.{Mention, peer_of_mention}
use Rattle.client_rules.specs.Bearings.{mention, mentions}
use Rattle.relay_rules.specs.Bearings.{relay_mention, relay_mentions}
use Rattle.topology.specs.Rows.{TopologyState}
use Rattle.topology.specs.declared.client_node.ClientNode.{ClientNode}
use Rattle.topology.specs.declared.node.Node.{Node}
use Rattle.topology.specs.declared.node.Node.TheVariants.{Server as server, Nat as nat, Client as client, Relay as relay, Native as native}
use Rattle.topology.specs.Topology.{node_at, client_at}
use Rattle.topology.specs.Chains.{Passing, nat_set_up}
use Rattle.events.specs.declared.event.Event.{Event}
use Rattle.events.specs.declared.event.Event.TheVariants as event
use Rattle.history.specs.Full.{Full}
use Rattle.legal.specs.Past.{is_restart, journal}
use Rattle.states.specs.Facts.{PeerFact, Fact, nothing, forgets, client_knows, relay_knows, NodeFact}
use Rattle.states.specs.Kept.{port_fact, lets_fact, peer_fact_of, client_fact, relay_fact, at_node}

-- THE PEER

-- What is known of the peer of a node's latest entry, where that changes it. `said` reads a mention off an entry, and `knows`
-- makes a fact of what is known.
abbrev pub peer_concerned : (Entry → Mention) → (PeerFact → Fact) → List Mention → ℕ → Option Entry → List Fact
peer_concerned said knows j n None = []
peer_concerned said knows j n (Some e) = map (λ (p : Ip6). knows (peer_fact_of j n p)) (option_to_list (peer_of_mention (said e)))

-- THE NODE

-- By this entry, if there is one, the client's address changed.
abbrev pub has_changed : Option Entry → Bool
has_changed None = false
has_changed (Some e) = is_changed e.step.fate

-- All that was said of the record's node is void: it starts anew, or drops all of its peers since its address changed
-- (RFC 4380, section 5.2.5).
abbrev pub voids : Full → Bool
voids r = is_restart r.act || has_changed r.entry

-- the fact that all is void, where it is
abbrev pub void_if : Bool → List Fact
void_if true = nothing ∷ []
void_if false = []

-- the fact that what was said of a client's inside endpoint is void, where the event is that a NAT forgets that client
abbrev pub forgotten_facts : TopologyState → Event → List Fact
forgotten_facts t (event.Forget n who) = option_to_list (option_map (λ (c : ClientNode). forgets c.inside) (client_at t who))
forgotten_facts t _ = []

-- What a record changes of its node. The journal is the node's after the record; a server and a native host keep nothing.
abbrev pub concerned_of : TopologyState → Full → Journal → Node → List Fact
concerned_of t r j (server a) = []
concerned_of t r j (nat a) = void_if (is_restart r.act) ++ forgotten_facts t r.asked
concerned_of t r j (client c) = void_if (voids r)
    ++ client_fact t c j r.moment ∷ peer_concerned mention client_knows (mentions j.entries) r.moment r.entry
concerned_of t r j (relay q) = void_if (voids r)
    ++ relay_fact j r.moment ∷ peer_concerned relay_mention relay_knows (relay_mentions j.entries) r.moment r.entry
concerned_of t r j (native a) = []

-- the same, where the record has a node
abbrev pub concerned_if : TopologyState → Full → Journal → Option Node → List Fact
concerned_if t r j None = []
concerned_if t r j (Some a) = concerned_of t r j a

-- the same of the record after these, with the number of its node
abbrev pub concerned_at : TopologyState → List Full → Full → Option ℕ → List NodeFact
concerned_at t H r None = []
concerned_at t H r (Some n) = map (at_node n) (concerned_if t r (journal n (r ∷ H)) (node_at t n))

-- NATS

-- the port of a datagram that a NAT let out, and whom the NAT lets in there since then
abbrev pub passed_facts : NatSettings → Outward → List Fact
passed_facts s e = port_fact s e ∷ option_to_list (lets_fact s e.port e)

-- the same, with the number of the NAT that let it out
abbrev pub passing_facts : TopologyState → Passing → List NodeFact
passing_facts t p = map (at_node p.nat) (passed_facts (nat_set_up t p.nat) p.datagram)

-- THE WHOLE

-- *concerned*, of a fact: what a record changed of its node, and then of each NAT that let something of it out, in the order in
-- which they did. It is the record after these.
abbrev pub concerned : TopologyState → List Full → Full → List NodeFact
concerned t H r = concerned_at t H r r.node ++ flat_map (passing_facts t) (reverse r.passed)
