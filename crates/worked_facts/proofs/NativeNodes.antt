-- A client behind a NAT, a native host and its relay; the client qualifies, and one of the two sends to the other.
use Rattle.worked_facts.proofs.Words.{ClientNode, Event, Ip6, Lab, List, NatKind, NatNode, NativeNode, RelayNode, Scenario, TopologyState, [], ep, false, flat_lab, ip, ip6, name1, name2, some_words, true, ◌∷◌}
use Rattle.nat_kinds.specs.declared.kind.NatKind.TheVariants as kind
use Rattle.events.specs.declared.event.Event.TheVariants as event
use Rattle.events.specs.declared.target.Target.TheVariants as target
use Rattle.worked_facts.proofs.NativeViews.{Three}

abbrev pub host_six : Ip6
host_six = ip6 (32 ∷ 1 ∷ 13 ∷ 184 ∷ 0 ∷ 0 ∷ 0 ∷ 0 ∷ 0 ∷ 0 ∷ 0 ∷ 0 ∷ 0 ∷ 0 ∷ 0 ∷ 1 ∷ [])

abbrev pub a_own : Ip6
a_own = ip6 (32 ∷ 1 ∷ 0 ∷ 0 ∷ 192 ∷ 0 ∷ 2 ∷ 1 ∷ 0 ∷ 0 ∷ 251 ∷ 255 ∷ 57 ∷ 204 ∷ 155 ∷ 254 ∷ [])

abbrev pub a_own_cone : Ip6
a_own_cone = ip6 (32 ∷ 1 ∷ 0 ∷ 0 ∷ 192 ∷ 0 ∷ 2 ∷ 1 ∷ 128 ∷ 0 ∷ 251 ∷ 255 ∷ 57 ∷ 204 ∷ 155 ∷ 254 ∷ [])

abbrev pub nat_row : NatKind → NatNode
nat_row k = record { name = name2 110 49; kind = k; external = ip 198 51 100 1; idle = 60000 }

abbrev pub client_row : ClientNode
client_row = record { name = name1 97; nat = 1; inside = ep (ip 10 0 0 2) 4000; server = 0; refresh = record { low_ms = 30000; high_ms = 30000 }; random = false; cone_try = true }

abbrev pub relay_row : RelayNode
relay_row = record { name = name2 114 49; at = ep (ip 203 0 113 9) 3545; six = ip6 (32 ∷ 1 ∷ 13 ∷ 184 ∷ 0 ∷ 0 ∷ 0 ∷ 0 ∷ 0 ∷ 0 ∷ 0 ∷ 0 ∷ 0 ∷ 0 ∷ 0 ∷ 9 ∷ []) }

abbrev pub host_row : NativeNode
host_row = record { name = name2 104 49; six = host_six; relay = 3 }

abbrev pub nodes : NatKind → TopologyState
nodes k = record {
  servers = record { name = name2 115 49; primary = ip 192 0 2 1; secondary = ip 192 0 2 2 } ∷ [];
  nats = nat_row k ∷ [];
  clients = client_row ∷ [];
  relays = relay_row ∷ [];
  natives = host_row ∷ [];
}

abbrev pub lab : NatKind → Lab
lab k = flat_lab some_words (nodes k)

abbrev pub three : Ip6 → Three
three own = record { n = 2; m = 4; k = 3; a = client_row; h = host_row; r = relay_row; own = own }

-- the host of the native hands in a packet for the client
abbrev pub to_a : Event
to_a = event.Host 4 (target.Node 2) (104 ∷ 101 ∷ 108 ∷ 108 ∷ 111 ∷ [])

-- the host of the client hands in one for the native
abbrev pub to_h : Event
to_h = event.Host 2 (target.Node 4) (104 ∷ 101 ∷ 108 ∷ 108 ∷ 111 ∷ [])

-- it hands in one for the relay's own address
abbrev pub to_r : Event
to_r = event.Raw 2 (96 ∷ 0 ∷ 0 ∷ 0 ∷ 0 ∷ 1 ∷ 253 ∷ 64 ∷ 32 ∷ 1 ∷ 0 ∷ 0 ∷ 192 ∷ 0 ∷ 2 ∷ 1 ∷ 0 ∷ 0 ∷ 251 ∷ 255 ∷ 57 ∷ 204 ∷ 155 ∷ 254 ∷ 32 ∷ 1 ∷ 13 ∷ 184 ∷ 0 ∷ 0 ∷ 0 ∷ 0 ∷ 0 ∷ 0 ∷ 0 ∷ 0 ∷ 0 ∷ 0 ∷ 0 ∷ 9 ∷ 119 ∷ [])

-- the client behind a port restricted NAT qualifies, and then this
abbrev pub after_qualifying : List Event → Scenario
after_qualifying events = record {
  seed = 1;
  topology = nodes kind.Port;
  events = event.Advance 12000 ∷ event.Deliver 3 ∷ event.Deliver 4 ∷ event.Advance 0 ∷ event.Deliver 5 ∷ event.Deliver 6 ∷ events;
}

-- the client behind a cone NAT does, and then this
abbrev pub after_cone_qualifying : List Event → Scenario
after_cone_qualifying events = record { seed = 1; topology = nodes kind.Cone; events = event.Advance 0 ∷ event.Deliver 0 ∷ event.Deliver 1 ∷ events }
