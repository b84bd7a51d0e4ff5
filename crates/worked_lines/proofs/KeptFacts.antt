-- What nodes keep, computed: what each record concerned, and all that is kept in the end.
use Rattle.worked_lines.proofs.Words.{Scenario, [], codes, refl, ◌∷◌, ◌≡◌}
use Rattle.nat_kinds.specs.declared.kind.NatKind.TheVariants as kind
use Rattle.events.specs.declared.event.Event.TheVariants as event
use Rattle.events.specs.declared.target.Target.TheVariants as target
use Rattle.worked_lines.proofs.Homes.{one_server, nat_numbered, client_with, one_relay, native_numbered, kept_by_each, kept_at_last}
use Rattle.worked_lines.proofs.Telling.{telling}

-- a client holds a packet of a native host; then its NAT starts anew, and so does it
abbrev pub relayed_kept : Scenario
relayed_kept = record {
  seed = 1;
  topology = record {
    servers = one_server ∷ [];
    nats = nat_numbered 1 kind.Port ∷ [];
    clients = client_with 97 1 2 ∷ [];
    relays = one_relay ∷ [];
    natives = native_numbered 1 3 ∷ [];
  };
  events = event.Advance 0 ∷ event.Next ∷ event.Next ∷ event.Advance 12000 ∷ event.Deliver 4 ∷ event.Deliver 5 ∷ event.Advance 0
      ∷ event.Deliver 6 ∷ event.Deliver 7 ∷ event.Host 4 (target.Node 2) (3 ∷ []) ∷ event.Deliver 8 ∷ event.Deliver 9 ∷ event.Deliver 10
      ∷ event.Deliver 11 ∷ event.Deliver 12 ∷ event.Restart 1 ∷ event.Restart 2 ∷ [];
}

pub relayed_kept-lines : kept_by_each relayed_kept ([])
    ≡ codes "- 0 n1 -\n"
    ∷ codes "- 0 a cone - due 0\n"
    ∷ codes "- 0 r1 due -\n"
    ∷ codes "0 0 a cone - due 4000\n"
    ∷ codes "0 0 n1 port 1024 inside 10.0.0.2:4000 until 60000\n"
    ∷ codes "0 0 n1 port 1024 lets 192.0.2.1:3544 until 60000\n"
    ∷ codes "4 4000 a cone - due 8000\n"
    ∷ codes "4 4000 n1 port 1024 inside 10.0.0.2:4000 until 64000\n"
    ∷ codes "4 4000 n1 port 1024 lets 192.0.2.1:3544 until 64000\n"
    ∷ codes "5 8000 a cone - due 12000\n"
    ∷ codes "5 8000 n1 port 1024 inside 10.0.0.2:4000 until 68000\n"
    ∷ codes "5 8000 n1 port 1024 lets 192.0.2.1:3544 until 68000\n"
    ∷ codes "6 12000 a restricted - due 16000\n"
    ∷ codes "6 12000 n1 port 1024 inside 10.0.0.2:4000 until 72000\n"
    ∷ codes "6 12000 n1 port 1024 lets 192.0.2.1:3544 until 72000\n"
    ∷ codes "9 12000 a secondary - due 12000\n"
    ∷ codes "10 12000 a secondary - due 16000\n"
    ∷ codes "10 12000 n1 port 1024 inside 10.0.0.2:4000 until 72000\n"
    ∷ codes "10 12000 n1 port 1024 lets 192.0.2.2:3544 until 72000\n"
    ∷ codes "13 12000 a qualified 2001:0:c000:201:0:fbff:39cc:9bfe due 42000\n"
    ∷ codes "15 12000 r1 due 14000\n"
    ∷ codes "15 12000 r1 peer 2001:0:c000:201:0:fbff:39cc:9bfe at - heard - touched 12000 tries 12000 waits 1\n"
    ∷ codes "17 12000 a qualified 2001:0:c000:201:0:fbff:39cc:9bfe due 42000\n"
    ∷ codes "17 12000 a peer 2001:db8::9 at - heard - touched 12000 tries 12000 nonce - waits 0 held 0\n"
    ∷ codes "17 12000 n1 port 1024 inside 10.0.0.2:4000 until 72000\n"
    ∷ codes "17 12000 n1 port 1024 lets 203.0.113.9:3545 until 72000\n"
    ∷ codes "18 12000 r1 due -\n"
    ∷ codes "18 12000 r1 peer 2001:0:c000:201:0:fbff:39cc:9bfe at 198.51.100.1:1024 heard 12000 touched 12000 tries - waits 0\n"
    ∷ codes "19 12000 a qualified 2001:0:c000:201:0:fbff:39cc:9bfe due 42000\n"
    ∷ codes "19 12000 a peer 2001:db8::1 at - heard - touched 12000 tries 12000 nonce 0ebb89de3baa7bd4 waits 0 held 1\n"
    ∷ codes "19 12000 n1 port 1024 inside 10.0.0.2:4000 until 72000\n"
    ∷ codes "19 12000 n1 port 1024 lets 192.0.2.1:3544 until 72000\n"
    ∷ codes "20 12000 n1 -\n"
    ∷ codes "21 12000 a -\n"
    ∷ codes "21 12000 a cone - due 12000\n"
    ∷ codes "total records 22\n"
    ∷ []
unfolding telling
relayed_kept-lines = refl

-- the same before they do, in the end
abbrev pub relayed_at_last : Scenario
relayed_at_last = record {
  seed = 1;
  topology = record {
    servers = one_server ∷ [];
    nats = nat_numbered 1 kind.Port ∷ [];
    clients = client_with 97 1 2 ∷ [];
    relays = one_relay ∷ [];
    natives = native_numbered 1 3 ∷ [];
  };
  events = event.Advance 0 ∷ event.Next ∷ event.Next ∷ event.Advance 12000 ∷ event.Deliver 4 ∷ event.Deliver 5 ∷ event.Advance 0
      ∷ event.Deliver 6 ∷ event.Deliver 7 ∷ event.Host 4 (target.Node 2) (3 ∷ []) ∷ event.Deliver 8 ∷ event.Deliver 9 ∷ event.Deliver 10
      ∷ event.Deliver 11 ∷ event.Deliver 12 ∷ [];
}

pub relayed_at_last-lines : kept_at_last relayed_at_last ([])
    ≡ codes "19 12000 n1 port 1024 inside 10.0.0.2:4000 until 72000\n"
    ∷ codes "19 12000 n1 port 1024 lets 192.0.2.1:3544 until 72000\n"
    ∷ codes "19 12000 n1 port 1024 lets 192.0.2.2:3544 until 72000\n"
    ∷ codes "19 12000 n1 port 1024 lets 203.0.113.9:3545 until 72000\n"
    ∷ codes "19 12000 a qualified 2001:0:c000:201:0:fbff:39cc:9bfe due 42000\n"
    ∷ codes "19 12000 a peer 2001:db8::1 at - heard - touched 12000 tries 12000 nonce 0ebb89de3baa7bd4 waits 0 held 1\n"
    ∷ codes "19 12000 a peer 2001:db8::9 at - heard - touched 12000 tries 12000 nonce - waits 0 held 0\n"
    ∷ codes "19 12000 r1 due -\n"
    ∷ codes "19 12000 r1 peer 2001:0:c000:201:0:fbff:39cc:9bfe at 198.51.100.1:1024 heard 12000 touched 12000 tries - waits 0\n"
    ∷ codes "total records 20\n"
    ∷ []
unfolding telling
relayed_at_last-lines = refl

-- a symmetric NAT has a port toward each server address
abbrev pub symmetric_kept : Scenario
symmetric_kept = record {
  seed = 1;
  topology = record {
    servers = one_server ∷ [];
    nats = nat_numbered 1 kind.Symmetric ∷ [];
    clients = client_with 97 1 2 ∷ [];
    relays = [];
    natives = [];
  };
  events = event.Advance 0 ∷ event.Settle ∷ event.Advance 12000 ∷ event.Settle ∷ event.Advance 0 ∷ event.Settle ∷ [];
}

pub symmetric_kept-lines : kept_by_each symmetric_kept ([])
    ≡ codes "- 0 n1 -\n"
    ∷ codes "- 0 a cone - due 0\n"
    ∷ codes "0 0 a cone - due 4000\n"
    ∷ codes "0 0 n1 port 1024 inside 10.0.0.2:4000 to 192.0.2.1:3544 until 60000\n"
    ∷ codes "5 4000 a cone - due 8000\n"
    ∷ codes "5 4000 n1 port 1024 inside 10.0.0.2:4000 to 192.0.2.1:3544 until 64000\n"
    ∷ codes "6 8000 a cone - due 12000\n"
    ∷ codes "6 8000 n1 port 1024 inside 10.0.0.2:4000 to 192.0.2.1:3544 until 68000\n"
    ∷ codes "7 12000 a restricted - due 16000\n"
    ∷ codes "7 12000 n1 port 1024 inside 10.0.0.2:4000 to 192.0.2.1:3544 until 72000\n"
    ∷ codes "14 12000 a secondary - due 12000\n"
    ∷ codes "16 12000 a secondary - due 16000\n"
    ∷ codes "16 12000 n1 port 1025 inside 10.0.0.2:4000 to 192.0.2.2:3544 until 72000\n"
    ∷ codes "19 12000 a symmetric - due -\n"
    ∷ codes "total records 21\n"
    ∷ []
unfolding telling
symmetric_kept-lines = refl
