-- What a NAT forgets, and what goes with an address, computed.
use Rattle.worked_lines.proofs.Words.{Scenario, [], codes, ep, ip, ip6, refl, ◌∷◌, ◌≡◌}
use Rattle.nat_kinds.specs.declared.kind.NatKind.TheVariants as kind
use Rattle.events.specs.declared.event.Event.TheVariants as event
use Rattle.events.specs.declared.target.Target.TheVariants as target
use Rattle.worked_lines.proofs.Homes.{one_server, nat_numbered, client_with, one_relay, native_numbered, kept_by_each, kept_at_last}
use Rattle.worked_lines.proofs.Telling.{telling}

-- a NAT forgets one of two clients
abbrev pub forgotten_kept : Scenario
forgotten_kept = record {
  seed = 1;
  topology = record {
    servers = one_server ∷ [];
    nats = nat_numbered 1 kind.Port ∷ [];
    clients = client_with 97 1 2 ∷ client_with 98 1 3 ∷ [];
    relays = [];
    natives = [];
  };
  events = event.Advance 0 ∷ event.Settle ∷ event.Advance 12000 ∷ event.Settle ∷ event.Advance 0 ∷ event.Settle ∷ event.Forget 1 2
      ∷ event.Host 2 (target.At (ip6 (32 ∷ 1 ∷ 13 ∷ 184 ∷ 0 ∷ 0 ∷ 0 ∷ 0 ∷ 0 ∷ 0 ∷ 0 ∷ 0 ∷ 0 ∷ 0 ∷ 0 ∷ 1 ∷ []))) (1 ∷ []) ∷ [];
}

pub forgotten_kept-lines : kept_by_each forgotten_kept ([])
    ≡ codes "- 0 n1 -\n"
    ∷ codes "- 0 a cone - due 0\n"
    ∷ codes "- 0 b cone - due 0\n"
    ∷ codes "0 0 a cone - due 4000\n"
    ∷ codes "0 0 n1 port 1024 inside 10.0.0.2:4000 until 60000\n"
    ∷ codes "0 0 n1 port 1024 lets 192.0.2.1:3544 until 60000\n"
    ∷ codes "1 0 b cone - due 4000\n"
    ∷ codes "1 0 n1 port 1025 inside 10.0.0.3:4000 until 60000\n"
    ∷ codes "1 0 n1 port 1025 lets 192.0.2.1:3544 until 60000\n"
    ∷ codes "8 4000 a cone - due 8000\n"
    ∷ codes "8 4000 n1 port 1024 inside 10.0.0.2:4000 until 64000\n"
    ∷ codes "8 4000 n1 port 1024 lets 192.0.2.1:3544 until 64000\n"
    ∷ codes "9 4000 b cone - due 8000\n"
    ∷ codes "9 4000 n1 port 1025 inside 10.0.0.3:4000 until 64000\n"
    ∷ codes "9 4000 n1 port 1025 lets 192.0.2.1:3544 until 64000\n"
    ∷ codes "10 8000 a cone - due 12000\n"
    ∷ codes "10 8000 n1 port 1024 inside 10.0.0.2:4000 until 68000\n"
    ∷ codes "10 8000 n1 port 1024 lets 192.0.2.1:3544 until 68000\n"
    ∷ codes "11 8000 b cone - due 12000\n"
    ∷ codes "11 8000 n1 port 1025 inside 10.0.0.3:4000 until 68000\n"
    ∷ codes "11 8000 n1 port 1025 lets 192.0.2.1:3544 until 68000\n"
    ∷ codes "12 12000 a restricted - due 16000\n"
    ∷ codes "12 12000 n1 port 1024 inside 10.0.0.2:4000 until 72000\n"
    ∷ codes "12 12000 n1 port 1024 lets 192.0.2.1:3544 until 72000\n"
    ∷ codes "13 12000 b restricted - due 16000\n"
    ∷ codes "13 12000 n1 port 1025 inside 10.0.0.3:4000 until 72000\n"
    ∷ codes "13 12000 n1 port 1025 lets 192.0.2.1:3544 until 72000\n"
    ∷ codes "25 12000 a secondary - due 12000\n"
    ∷ codes "26 12000 b secondary - due 12000\n"
    ∷ codes "28 12000 a secondary - due 16000\n"
    ∷ codes "28 12000 n1 port 1024 inside 10.0.0.2:4000 until 72000\n"
    ∷ codes "28 12000 n1 port 1024 lets 192.0.2.2:3544 until 72000\n"
    ∷ codes "29 12000 b secondary - due 16000\n"
    ∷ codes "29 12000 n1 port 1025 inside 10.0.0.3:4000 until 72000\n"
    ∷ codes "29 12000 n1 port 1025 lets 192.0.2.2:3544 until 72000\n"
    ∷ codes "33 12000 a qualified 2001:0:c000:201:0:fbff:39cc:9bfe due 42000\n"
    ∷ codes "34 12000 b qualified 2001:0:c000:201:0:fbfe:39cc:9bfe due 42000\n"
    ∷ codes "36 12000 n1 inside 10.0.0.2:4000 -\n"
    ∷ codes "37 12000 a qualified 2001:0:c000:201:0:fbff:39cc:9bfe due 14000\n"
    ∷ codes "37 12000 a peer 2001:db8::1 at - heard - touched 12000 tries 12000 nonce 0ebb89de3baa7bd4 waits 1 held 0\n"
    ∷ codes "37 12000 n1 port 1024 inside 10.0.0.2:4000 until 72000\n"
    ∷ codes "37 12000 n1 port 1024 lets 192.0.2.1:3544 until 72000\n"
    ∷ codes "total records 38\n"
    ∷ []
unfolding telling
forgotten_kept-lines = refl

-- a client whose address changes knows nobody any more
abbrev pub changed_at_last : Scenario
changed_at_last = record {
  seed = 1;
  topology = record {
    servers = one_server ∷ [];
    nats = nat_numbered 1 kind.Cone ∷ nat_numbered 2 kind.Port ∷ [];
    clients = client_with 97 1 2 ∷ client_with 98 2 3 ∷ [];
    relays = [];
    natives = [];
  };
  events = event.Advance 0 ∷ event.Settle ∷ event.Advance 12000 ∷ event.Settle ∷ event.Advance 0 ∷ event.Settle
      ∷ event.Host 3 (target.Node 4) (1 ∷ []) ∷ event.Settle ∷ event.Advance 18000
      ∷ event.Stranger (ep (ip 192 0 2 2) 3544) (ep (ip 198 51 100 1) 1024) (0 ∷ 1 ∷ 0 ∷ 0 ∷ 131 ∷ 88 ∷ 50 ∷ 171 ∷ 161 ∷ 23 ∷ 25 ∷ 224 ∷ 0
      ∷ 0 ∷ 0 ∷ 255 ∷ 246 ∷ 52 ∷ 255 ∷ 142 ∷ 248 ∷ 96 ∷ 0 ∷ 0 ∷ 0 ∷ 0 ∷ 56 ∷ 58 ∷ 255 ∷ 254 ∷ 128 ∷ 0 ∷ 0 ∷ 0 ∷ 0 ∷ 0 ∷ 0 ∷ 128 ∷ 0 ∷ 242
      ∷ 39 ∷ 63 ∷ 255 ∷ 253 ∷ 254 ∷ 254 ∷ 128 ∷ 0 ∷ 0 ∷ 0 ∷ 0 ∷ 0 ∷ 0 ∷ 0 ∷ 0 ∷ 240 ∷ 95 ∷ 245 ∷ 255 ∷ 255 ∷ 253 ∷ 134 ∷ 0 ∷ 182 ∷ 190 ∷ 0
      ∷ 0 ∷ 0 ∷ 0 ∷ 0 ∷ 0 ∷ 0 ∷ 0 ∷ 0 ∷ 0 ∷ 0 ∷ 0 ∷ 3 ∷ 4 ∷ 64 ∷ 64 ∷ 255 ∷ 255 ∷ 255 ∷ 255 ∷ 255 ∷ 255 ∷ 255 ∷ 255 ∷ 0 ∷ 0 ∷ 0 ∷ 0 ∷ 32
      ∷ 1 ∷ 0 ∷ 0 ∷ 192 ∷ 0 ∷ 2 ∷ 1 ∷ 0 ∷ 0 ∷ 0 ∷ 0 ∷ 0 ∷ 0 ∷ 0 ∷ 0 ∷ 5 ∷ 1 ∷ 0 ∷ 0 ∷ 0 ∷ 0 ∷ 5 ∷ 0 ∷ []) ∷ event.Deliver 17 ∷ [];
}

pub changed_at_last-lines : kept_at_last changed_at_last ([])
    ≡ codes "33 30000 n1 port 1024 inside 10.0.0.2:4000 until 90000\n"
    ∷ codes "33 30000 n2 port 1024 inside 10.0.0.3:4000 until 72000\n"
    ∷ codes "33 30000 n2 port 1024 lets 192.0.2.1:3544 until 72000\n"
    ∷ codes "33 30000 n2 port 1024 lets 192.0.2.2:3544 until 72000\n"
    ∷ codes "33 30000 n2 port 1024 lets 198.51.100.1:1024 until 72000\n"
    ∷ codes "33 30000 a qualified 2001:0:c000:201:8000:fff6:34ff:8ef8 due 60000\n"
    ∷ codes "33 30000 b qualified 2001:0:c000:201:0:fbff:39cc:9bfd due 42000\n"
    ∷ codes "33 30000 b peer 2001:0:c000:201:8000:fbff:39cc:9bfe at 198.51.100.1:1024 heard 12000 touched 12000 tries - nonce - waits 0 held 0\n"
    ∷ codes "total records 34\n"
    ∷ []
unfolding telling
changed_at_last-lines = refl

-- NATs behind another one: to the outer one the inner ones are endpoints
abbrev pub chained_at_last : Scenario
chained_at_last = record {
  seed = 1;
  topology = record {
    servers = one_server ∷ [];
    nats = nat_numbered 1 kind.Port ∷ nat_numbered 2 kind.Cone ∷ nat_numbered 3 kind.Cone ∷ nat_numbered 4 kind.Port ∷ [];
    clients = client_with 97 1 2 ∷ client_with 98 2 3 ∷ client_with 99 4 4 ∷ [];
    relays = one_relay ∷ [];
    natives = native_numbered 1 8 ∷ [];
  };
  events = event.Advance 0 ∷ event.Settle ∷ event.Advance 12000 ∷ event.Settle ∷ event.Advance 0 ∷ event.Settle
      ∷ event.Host 5 (target.Node 6) (1 ∷ []) ∷ event.Host 5 (target.Node 7) (2 ∷ []) ∷ event.Settle ∷ [];
}

pub chained_at_last-lines : kept_at_last chained_at_last (record { inner = 1; outer = 3 } ∷ record { inner = 2; outer = 3 } ∷ [])
    ≡ codes "46 12000 n1 port 1024 inside 10.0.0.2:4000 until 72000\n"
    ∷ codes "46 12000 n1 port 1024 lets 192.0.2.1:3544 until 72000\n"
    ∷ codes "46 12000 n1 port 1024 lets 192.0.2.2:3544 until 72000\n"
    ∷ codes "46 12000 n1 port 1024 lets 198.51.100.3:1025 until 72000\n"
    ∷ codes "46 12000 n1 port 1024 lets 198.51.100.4:1024 until 72000\n"
    ∷ codes "46 12000 n2 port 1024 inside 10.0.0.3:4000 until 60000\n"
    ∷ codes "46 12000 n3 port 1024 inside 198.51.100.1:1024 until 72000\n"
    ∷ codes "46 12000 n3 port 1025 inside 198.51.100.2:1024 until 60000\n"
    ∷ codes "46 12000 n4 port 1024 inside 10.0.0.4:4000 until 72000\n"
    ∷ codes "46 12000 n4 port 1024 lets 192.0.2.1:3544 until 72000\n"
    ∷ codes "46 12000 n4 port 1024 lets 192.0.2.2:3544 until 72000\n"
    ∷ codes "46 12000 n4 port 1024 lets 198.51.100.3:1024 until 72000\n"
    ∷ codes "46 12000 a qualified 2001:0:c000:201:0:fbff:39cc:9bfc due 42000\n"
    ∷ codes "46 12000 a peer 2001:0:c000:201:0:fbff:39cc:9bfb at 198.51.100.4:1024 heard 12000 touched 12000 tries - nonce - waits 0 held 0\n"
    ∷ codes "46 12000 b qualified 2001:0:c000:201:8000:fbfe:39cc:9bfc due 30000\n"
    ∷ codes "46 12000 c qualified 2001:0:c000:201:0:fbff:39cc:9bfb due 42000\n"
    ∷ codes "46 12000 c peer 2001:0:c000:201:0:fbff:39cc:9bfc at 198.51.100.3:1024 heard 12000 touched 12000 tries - nonce - waits 0 held 0\n"
    ∷ codes "46 12000 r1 due -\n"
    ∷ codes "total records 47\n"
    ∷ []
unfolding telling
chained_at_last-lines = refl
