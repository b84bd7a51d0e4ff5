-- Packets that ended with what was kept, computed.
use Rattle.worked_lines.proofs.Words.{Scenario, [], codes, refl, ◌∷◌, ◌≡◌}
use Rattle.nat_kinds.specs.declared.kind.NatKind.TheVariants as kind
use Rattle.events.specs.declared.event.Event.TheVariants as event
use Rattle.events.specs.declared.target.Target.TheVariants as target
use Rattle.worked_lines.proofs.Homes.{one_server, nat_numbered, client_with, one_relay, native_numbered, followed}
use Rattle.worked_lines.proofs.Telling.{telling}

-- a packet is held, and another one waits: the one ends with the address, the other when no try is left
abbrev pub changed_followed : Scenario
changed_followed = record {
  seed = 1;
  topology = record {
    servers = one_server ∷ [];
    nats = nat_numbered 1 kind.Cone ∷ [];
    clients = client_with 97 1 2 ∷ client_with 98 1 3 ∷ [];
    relays = one_relay ∷ [];
    natives = native_numbered 1 4 ∷ [];
  };
  events = event.Advance 0 ∷ event.Settle ∷ event.Host 5 (target.Node 2) (3 ∷ []) ∷ event.Next ∷ event.Next ∷ event.Restart 1
      ∷ event.Host 3 (target.Node 5) (4 ∷ []) ∷ event.Advance 30000 ∷ event.Settle ∷ [];
}

pub changed_followed-lines : followed changed_followed ([])
    ≡ codes "8 0 h1 sent_six 0 goes #4=six:r1/41\n"
    ∷ codes "9 0 r1 sent_cone 0 goes #5=203.0.113.9:3545>198.51.100.1:1024/41\n"
    ∷ codes "10 0 a held_test 0 held\n"
    ∷ codes "12 0 b queued 1 waits\n"
    ∷ codes "16 8000 b give_up 1 ends\n"
    ∷ codes "28 30000 a changed 0 ends\n"
    ∷ codes "packet 0 8 h1 lost 28\n"
    ∷ codes "packet 1 12 b lost 16\n"
    ∷ codes "total packets 2 arrived 0 waits 0 held 0 wire 0 lost 2\n"
    ∷ []
unfolding telling
changed_followed-lines = refl

-- both packets that are held end with a restart
abbrev pub restart_followed : Scenario
restart_followed = record {
  seed = 1;
  topology = record {
    servers = one_server ∷ [];
    nats = nat_numbered 1 kind.Cone ∷ [];
    clients = client_with 97 1 2 ∷ [];
    relays = one_relay ∷ [];
    natives = native_numbered 1 3 ∷ native_numbered 2 3 ∷ [];
  };
  events = event.Advance 0 ∷ event.Settle ∷ event.Advance 12000 ∷ event.Settle ∷ event.Advance 0 ∷ event.Settle
      ∷ event.Host 4 (target.Node 2) (1 ∷ []) ∷ event.Host 5 (target.Node 2) (2 ∷ []) ∷ event.Next ∷ event.Next ∷ event.Next ∷ event.Next
      ∷ event.Restart 2 ∷ [];
}

pub restart_followed-lines : followed restart_followed ([])
    ≡ codes "9 12000 h1 sent_six 0 goes #2=six:r1/41\n"
    ∷ codes "10 12000 h2 sent_six 1 goes #3=six:r1/41\n"
    ∷ codes "11 12000 r1 sent_cone 0 goes #4=203.0.113.9:3545>198.51.100.1:1024/41\n"
    ∷ codes "12 12000 r1 sent 1 goes #5=203.0.113.9:3545>198.51.100.1:1024/41\n"
    ∷ codes "13 12000 a held_test 0 held\n"
    ∷ codes "14 12000 a held_test 1 held\n"
    ∷ codes "15 12000 a done 0 ends\n"
    ∷ codes "15 12000 a done 1 ends\n"
    ∷ codes "packet 0 9 h1 lost 15\n"
    ∷ codes "packet 1 10 h2 lost 15\n"
    ∷ codes "total packets 2 arrived 0 waits 0 held 0 wire 0 lost 2\n"
    ∷ []
unfolding telling
restart_followed-lines = refl

-- packets of two native hosts wait at a relay for one client
abbrev pub given_up_followed : Scenario
given_up_followed = record {
  seed = 1;
  topology = record {
    servers = one_server ∷ [];
    nats = nat_numbered 1 kind.Port ∷ [];
    clients = client_with 97 1 2 ∷ [];
    relays = one_relay ∷ [];
    natives = native_numbered 1 3 ∷ native_numbered 2 3 ∷ [];
  };
  events = event.Advance 0 ∷ event.Settle ∷ event.Advance 12000 ∷ event.Settle ∷ event.Advance 0 ∷ event.Settle
      ∷ event.Host 4 (target.Node 2) (1 ∷ []) ∷ event.Next ∷ event.Host 5 (target.Node 2) (2 ∷ []) ∷ event.Deliver 12 ∷ event.Advance 8000
      ∷ [];
}

pub given_up_followed-lines : followed given_up_followed ([])
    ≡ codes "21 12000 h1 sent_six 0 goes #10=six:r1/41\n"
    ∷ codes "22 12000 r1 queued 0 waits\n"
    ∷ codes "23 12000 h2 sent_six 1 goes #12=six:r1/41\n"
    ∷ codes "24 12000 r1 queued 1 waits\n"
    ∷ codes "28 20000 r1 give_up 0 ends\n"
    ∷ codes "28 20000 r1 give_up 1 ends\n"
    ∷ codes "packet 0 21 h1 lost 28\n"
    ∷ codes "packet 1 23 h2 lost 28\n"
    ∷ codes "total packets 2 arrived 0 waits 0 held 0 wire 0 lost 2\n"
    ∷ []
unfolding telling
given_up_followed-lines = refl
