-- Where packets went, computed: to their hosts, or where they wait.
use Rattle.worked_lines.proofs.Words.{Scenario, [], codes, refl, ◌∷◌, ◌≡◌}
use Rattle.nat_kinds.specs.declared.kind.NatKind.TheVariants as kind
use Rattle.events.specs.declared.event.Event.TheVariants as event
use Rattle.events.specs.declared.target.Target.TheVariants as target
use Rattle.worked_lines.proofs.Homes.{one_server, nat_numbered, client_with, one_relay, native_numbered, followed}
use Rattle.worked_lines.proofs.Telling.{telling}

-- two clients and two native hosts
abbrev pub all_ways_followed : Scenario
all_ways_followed = record {
  seed = 1;
  topology = record {
    servers = one_server ∷ [];
    nats = nat_numbered 1 kind.Port ∷ nat_numbered 2 kind.Port ∷ [];
    clients = client_with 97 1 2 ∷ client_with 98 2 3 ∷ [];
    relays = one_relay ∷ [];
    natives = native_numbered 1 5 ∷ native_numbered 2 5 ∷ [];
  };
  events = event.Advance 0 ∷ event.Settle ∷ event.Advance 12000 ∷ event.Settle ∷ event.Advance 0 ∷ event.Settle
      ∷ event.Host 3 (target.Node 4) (1 ∷ []) ∷ event.Host 3 (target.Node 6) (2 ∷ []) ∷ event.Next ∷ event.Next ∷ event.Settle
      ∷ event.Echo 7 (target.Node 3) 7 ∷ event.Settle ∷ event.Fault 0 ∷ event.Host 4 (target.Node 3) (3 ∷ [])
      ∷ event.Host 4 (target.Node 7) (4 ∷ []) ∷ [];
}

pub all_ways_followed-lines : followed all_ways_followed ([])
    ≡ codes "36 12000 a queued 0 waits\n"
    ∷ codes "37 12000 a queued 1 waits\n"
    ∷ codes "43 12000 a rule3_bubble 0 goes #27=198.51.100.1:1024>198.51.100.2:1024/41\n"
    ∷ codes "45 12000 b rule3 0 arrives\n"
    ∷ codes "49 12000 a rule2 1 goes #32=198.51.100.1:1024>203.0.113.9:3545/41\n"
    ∷ codes "50 12000 r1 from_client 1 goes #33=six/41\n"
    ∷ codes "51 12000 h1 kept 1 arrives\n"
    ∷ codes "53 12000 h2 sent_six 2 goes #34=six:r1/48\n"
    ∷ codes "54 12000 r1 sent 2 goes #35=203.0.113.9:3545>198.51.100.1:1024/48\n"
    ∷ codes "55 12000 a held_test 2 held\n"
    ∷ codes "59 12000 a rule2 2 arrives\n"
    ∷ codes "62 12000 b sent 3 goes !fault=198.51.100.1:1024/41\n"
    ∷ codes "63 12000 b queued 4 waits\n"
    ∷ codes "packet 0 36 a arrived 45\n"
    ∷ codes "packet 1 37 a arrived 51\n"
    ∷ codes "packet 2 53 h2 arrived 59\n"
    ∷ codes "packet 3 62 b lost 62\n"
    ∷ codes "packet 4 63 b waits b\n"
    ∷ codes "total packets 5 arrived 3 waits 1 held 0 wire 0 lost 1\n"
    ∷ []
unfolding telling
all_ways_followed-lines = refl

-- a datagram that its NAT let in to nobody is delivered once more
abbrev pub late_followed : Scenario
late_followed = record {
  seed = 1;
  topology = record {
    servers = one_server ∷ [];
    nats = nat_numbered 1 kind.Port ∷ nat_numbered 2 kind.Port ∷ [];
    clients = client_with 97 1 2 ∷ client_with 98 2 3 ∷ [];
    relays = [];
    natives = [];
  };
  events = event.Advance 0 ∷ event.Settle ∷ event.Advance 12000 ∷ event.Settle ∷ event.Advance 0 ∷ event.Settle
      ∷ event.Host 3 (target.Node 4) (1 ∷ []) ∷ event.Settle ∷ event.Restart 2 ∷ event.Host 3 (target.Node 4) (2 ∷ []) ∷ event.Next
      ∷ event.Advance 0 ∷ event.Host 4 (target.Node 3) (3 ∷ []) ∷ event.Deliver 25 ∷ [];
}

pub late_followed-lines : followed late_followed ([])
    ≡ codes "36 12000 a queued 0 waits\n"
    ∷ codes "40 12000 a rule3_bubble 0 goes #24=198.51.100.1:1024>198.51.100.2:1024/41\n"
    ∷ codes "41 12000 b rule3 0 arrives\n"
    ∷ codes "44 12000 a sent 1 goes #25=198.51.100.1:1024>198.51.100.2:1024/41\n"
    ∷ codes "45 12000 n2 nat_closed 1 ends\n"
    ∷ codes "47 12000 b sent 2 goes #26=198.51.100.2:1024>198.51.100.1:1024/41\n"
    ∷ codes "48 12000 b rule1 1 arrives\n"
    ∷ codes "packet 0 36 a arrived 41\n"
    ∷ codes "packet 1 44 a arrived 48\n"
    ∷ codes "packet 2 47 b wire 26\n"
    ∷ codes "total packets 3 arrived 2 waits 0 held 0 wire 1 lost 0\n"
    ∷ []
unfolding telling
late_followed-lines = refl

-- no NAT sends a datagram back to its own address
abbrev pub hairpin_followed : Scenario
hairpin_followed = record {
  seed = 1;
  topology = record {
    servers = one_server ∷ [];
    nats = nat_numbered 1 kind.Port ∷ nat_numbered 2 kind.Cone ∷ nat_numbered 3 kind.Cone ∷ nat_numbered 4 kind.Port ∷ [];
    clients = client_with 97 1 2 ∷ client_with 98 2 3 ∷ client_with 99 4 4 ∷ [];
    relays = one_relay ∷ [];
    natives = native_numbered 1 8 ∷ [];
  };
  events = event.Advance 0 ∷ event.Settle ∷ event.Advance 12000 ∷ event.Settle ∷ event.Advance 0 ∷ event.Settle
      ∷ event.Host 5 (target.Node 6) (1 ∷ []) ∷ event.Settle ∷ [];
}

pub hairpin_followed-lines : followed hairpin_followed (record { inner = 1; outer = 3 } ∷ record { inner = 2; outer = 3 } ∷ [])
    ≡ codes "39 12000 a sent_cone 0 goes !hairpin=198.51.100.3:1025/41\n"
    ∷ codes "packet 0 39 a lost 39\n"
    ∷ codes "total packets 1 arrived 0 waits 0 held 0 wire 0 lost 1\n"
    ∷ []
unfolding telling
hairpin_followed-lines = refl

-- of two packets that are released, the first is lost
abbrev pub fault_followed : Scenario
fault_followed = record {
  seed = 1;
  topology = record {
    servers = one_server ∷ [];
    nats = nat_numbered 1 kind.Port ∷ nat_numbered 2 kind.Port ∷ [];
    clients = client_with 97 1 2 ∷ client_with 98 2 3 ∷ [];
    relays = [];
    natives = [];
  };
  events = event.Advance 0 ∷ event.Settle ∷ event.Advance 12000 ∷ event.Settle ∷ event.Advance 0 ∷ event.Settle
      ∷ event.Host 3 (target.Node 4) (1 ∷ []) ∷ event.Host 3 (target.Node 4) (2 ∷ []) ∷ event.Deliver 21 ∷ event.Deliver 22
      ∷ event.Fault 0 ∷ event.Settle ∷ [];
}

pub fault_followed-lines : followed fault_followed ([])
    ≡ codes "36 12000 a queued 0 waits\n"
    ∷ codes "37 12000 a queued 1 waits\n"
    ∷ codes "42 12000 a rule3_bubble 0 goes !fault=198.51.100.2:1024/41\n"
    ∷ codes "42 12000 a rule3_bubble 1 goes #24=198.51.100.1:1024>198.51.100.2:1024/41\n"
    ∷ codes "43 12000 b rule1 1 arrives\n"
    ∷ codes "packet 0 36 a lost 42\n"
    ∷ codes "packet 1 37 a arrived 43\n"
    ∷ codes "total packets 2 arrived 1 waits 0 held 0 wire 0 lost 1\n"
    ∷ []
unfolding telling
fault_followed-lines = refl
