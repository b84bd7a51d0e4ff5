-- Honest scenarios: nobody who sends from nowhere says that it is a NAT, a server or a relay. Those that are honest for a client:
-- nobody says that it is this client's server.
use Rattle.std.specs.Prelude.{◌||◌, not, Bool, true, List}
use Rattle.std.specs.List.{list_all}
use Rattle.td_base.specs.declared.endpoint.Ep.{Ep}
use Rattle.td_base.specs.Ep.{same_ep, server_ep}
use Rattle.topology.specs.declared.client_node.ClientNode.{ClientNode}
use Rattle.topology.specs.Rows.{TopologyState}
use Rattle.topology.specs.NodeRules.{is_taken}
use Rattle.events.specs.declared.event.Event.{Event}
use Rattle.events.specs.declared.event.Event.TheVariants as event
use Rattle.events.specs.Scenario.{Scenario}
use Rattle.history.specs.Full.{Full}
use Rattle.legal.specs.Settings.{client_settings}

-- a datagram from nowhere doesn't come from a node's address
abbrev pub is_honest_event : TopologyState → Event → Bool
is_honest_event t (event.Stranger src dst bytes) = not (is_taken t src.ip)
is_honest_event t (event.Copy number src dst) = not (is_taken t src.ip)
is_honest_event t _ = true

-- *honest*: no `stranger` and no `copy` says that it comes from an address of a NAT, a server or a relay.
-- the scenario is honest
abbrev pub is_honest : Scenario → Bool
is_honest s = list_all (is_honest_event s.topology) s.events

-- the events of these records are
abbrev pub are_honest : TopologyState → List Full → Bool
are_honest t H = list_all (λ (r : Full). is_honest_event t r.asked) H

-- HONEST FOR A CLIENT

-- it is one of the two endpoints at which the client's server answers
abbrev pub is_its_server : TopologyState → ClientNode → Ep → Bool
is_its_server t c src = same_ep src (server_ep (client_settings t c).primary) || same_ep src (server_ep (client_settings t c).secondary)

-- a datagram from nowhere doesn't come from there
abbrev pub is_honest_event_for : TopologyState → ClientNode → Event → Bool
is_honest_event_for t c (event.Stranger src dst bytes) = not (is_its_server t c src)
is_honest_event_for t c (event.Copy number src dst) = not (is_its_server t c src)
is_honest_event_for t c _ = true

-- *honest for a client*: no `stranger` and no `copy` says that it comes from one of the two endpoints of its server.
-- the scenario is honest for the client
abbrev pub is_honest_for : Scenario → ClientNode → Bool
is_honest_for s c = list_all (is_honest_event_for s.topology c) s.events

-- the events of these records are
abbrev pub are_honest_for : TopologyState → ClientNode → List Full → Bool
are_honest_for t c H = list_all (λ (r : Full). is_honest_event_for t c r.asked) H
