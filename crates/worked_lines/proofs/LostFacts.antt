-- Packets that are lost, and what an entry that is delivered again brings back, computed.
use Rattle.worked_lines.proofs.Words.{Scenario, [], codes, refl, ◌∷◌, ◌≡◌}
use Rattle.nat_kinds.specs.declared.kind.NatKind.TheVariants as kind
use Rattle.events.specs.declared.event.Event.TheVariants as event
use Rattle.events.specs.declared.target.Target.TheVariants as target
use Rattle.worked_lines.proofs.Homes.{one_server, nat_numbered, client_with, one_relay, native_numbered, followed}
use Rattle.worked_lines.proofs.Telling.{telling}

-- a NAT that started anew is closed to a packet: it is lost, and what else is delivered later doesn't bring it back
abbrev pub lost_followed : Scenario
lost_followed = record {
  seed = 1;
  topology = record {
    servers = one_server ∷ [];
    nats = nat_numbered 1 kind.Cone ∷ nat_numbered 2 kind.Cone ∷ [];
    clients = client_with 97 1 2 ∷ client_with 98 2 3 ∷ [];
    relays = [];
    natives = [];
  };
  events = event.Advance 0 ∷ event.Settle ∷ event.Host 3 (target.Node 4) (1 ∷ []) ∷ event.Restart 2 ∷ event.Next ∷ event.Advance 30000 ∷ event.Settle ∷ [];
}

pub lost_followed-lines : followed lost_followed ([])
    ≡ codes "8 0 a sent_cone 0 goes #4=198.51.100.1:1024>198.51.100.2:1024/41\n"
    ∷ codes "10 0 n2 nat_closed 0 ends\n"
    ∷ codes "packet 0 8 a lost 10\n"
    ∷ codes "total packets 1 arrived 0 waits 0 held 0 wire 0 lost 1\n"
    ∷ []
unfolding telling
lost_followed-lines = refl

-- its entry, delivered again, does
abbrev pub brought_back_followed : Scenario
brought_back_followed = record lost_followed {
  events = event.Advance 0 ∷ event.Settle ∷ event.Host 3 (target.Node 4) (1 ∷ []) ∷ event.Restart 2 ∷ event.Next ∷ event.Advance 30000 ∷ event.Settle
      ∷ event.Deliver 4 ∷ [];
}

pub brought_back_followed-lines : followed brought_back_followed ([])
    ≡ codes "8 0 a sent_cone 0 goes #4=198.51.100.1:1024>198.51.100.2:1024/41\n"
    ∷ codes "10 0 n2 nat_closed 0 ends\n"
    ∷ codes "19 30000 b rule3 0 arrives\n"
    ∷ codes "packet 0 8 a arrived 19\n"
    ∷ codes "total packets 1 arrived 1 waits 0 held 0 wire 0 lost 0\n"
    ∷ []
unfolding telling
brought_back_followed-lines = refl

-- a reply is lost at the client's NAT; and the packet, delivered again, is answered again
abbrev pub answered_twice_followed : Scenario
answered_twice_followed = record {
  seed = 1;
  topology = record {
    servers = one_server ∷ [];
    nats = nat_numbered 1 kind.Cone ∷ [];
    clients = client_with 97 1 2 ∷ [];
    relays = one_relay ∷ [];
    natives = native_numbered 1 3 ∷ [];
  };
  events = event.Advance 0 ∷ event.Settle ∷ event.Echo 2 (target.Node 4) 7 ∷ event.Next ∷ event.Next ∷ event.Next ∷ event.Next ∷ event.Next ∷ event.Next ∷ event.Next
      ∷ event.Restart 1 ∷ event.Next ∷ event.Deliver 7 ∷ [];
}

pub answered_twice_followed-lines : followed answered_twice_followed ([])
    ≡ codes "5 0 a queued 0 waits\n"
    ∷ codes "9 0 a rule2 0 goes #6=198.51.100.1:1024>203.0.113.9:3545/48\n"
    ∷ codes "10 0 r1 from_client 0 goes #7=six/48\n"
    ∷ codes "11 0 h1 echoed 0 arrives\n"
    ∷ codes "11 0 h1 echoed 0 back goes #8=six:r1/48\n"
    ∷ codes "12 0 r1 sent 0 back goes #9=203.0.113.9:3545>198.51.100.1:1024/48\n"
    ∷ codes "14 0 n1 nat_closed 0 back ends\n"
    ∷ codes "15 0 h1 echoed 0 arrives\n"
    ∷ codes "15 0 h1 echoed 0 back goes #10=six:r1/48\n"
    ∷ codes "packet 0 5 a arrived 11 back wire 10\n"
    ∷ codes "total packets 1 arrived 1 waits 0 held 0 wire 0 lost 0\n"
    ∷ []
unfolding telling
answered_twice_followed-lines = refl
