-- A NAT behind another one: whole reports, computed from the definitions.
use Rattle.worked_scenarios.proofs.Words.{Behind, List, Scenario, [], codes, digits, false, hex, hex_groups_text, refl, report, true, ◌∷◌, ◌≡◌}
use Rattle.nat_kinds.specs.declared.kind.NatKind.TheVariants as kind
use Rattle.events.specs.declared.event.Event.TheVariants as event
use Rattle.worked_scenarios.proofs.Scenes.{name1, name2, ip, ep, some_words, play_behind}
use Rattle.worked_scenarios.proofs.Playing.{playing}

-- the first NAT is behind the other one
abbrev pub n1-behind-n3 : List Behind
n1-behind-n3 = record { inner = 1; outer = 2 } ∷ []

-- both are cone: the server's answer from its other address comes through
abbrev pub both-cone : Scenario
both-cone = record {
  seed = 1;
  topology = record {
    servers = record {
      name = name2 115 49;
      primary = ip 192 0 2 1;
      secondary = ip 192 0 2 2;
    } ∷ [];
    nats = record { name = name2 110 49; kind = kind.Cone; external = ip 198 51 100 1; idle = 60000 }
        ∷ record { name = name2 110 51; kind = kind.Cone; external = ip 198 51 100 9; idle = 60000 } ∷ [];
    clients = record {
      name = name1 97;
      nat = 1;
      inside = ep (ip 10 0 0 2) 4000;
      server = 0;
      refresh = record { low_ms = 30000; high_ms = 30000 };
      random = false;
      cone_try = true;
    } ∷ [];
    relays = [];
    natives = [];
  };
  events = event.Advance 0 ∷ event.Next ∷ event.Next ∷ [];
}

pub both-cone-report : report both-cone.topology (play_behind some_words n1-behind-n3 both-cone 8)
    ≡ codes
    "0 0 0 tick a rs_cone #0=198.51.100.9:1024>192.0.2.1:3544/61\n1 0 0 advance - done\n2 0 1 deliver:0 s1 advert #1=192.0.2.2:3544>198.51.100.9:1024/117\n3 0 2 deliver:1 a qualified_cone is 2001:0:c000:201:8000:fbff:39cc:9bf6\ntotal records 4 entries 2 delivered 2 handed 0 kept 0 dropped 0\n"
unfolding playing hex_groups_text hex digits
both-cone-report = refl

-- the outer one is port restricted, and lets it not in
abbrev pub shut-outside : Scenario
shut-outside = record {
  seed = 1;
  topology = record {
    servers = record {
      name = name2 115 49;
      primary = ip 192 0 2 1;
      secondary = ip 192 0 2 2;
    } ∷ [];
    nats = record { name = name2 110 49; kind = kind.Cone; external = ip 198 51 100 1; idle = 60000 }
        ∷ record { name = name2 110 51; kind = kind.Port; external = ip 198 51 100 9; idle = 60000 } ∷ [];
    clients = record {
      name = name1 97;
      nat = 1;
      inside = ep (ip 10 0 0 2) 4000;
      server = 0;
      refresh = record { low_ms = 30000; high_ms = 30000 };
      random = false;
      cone_try = true;
    } ∷ [];
    relays = [];
    natives = [];
  };
  events = event.Advance 0 ∷ event.Next ∷ event.Next ∷ [];
}

pub shut-outside-report : report shut-outside.topology (play_behind some_words n1-behind-n3 shut-outside 8)
    ≡ codes
    "0 0 0 tick a rs_cone #0=198.51.100.9:1024>192.0.2.1:3544/61\n1 0 0 advance - done\n2 0 1 deliver:0 s1 advert #1=192.0.2.2:3544>198.51.100.9:1024/117\n3 0 2 deliver:1 n3 nat_closed\ntotal records 4 entries 2 delivered 2 handed 0 kept 0 dropped 1\n"
unfolding playing hex_groups_text hex digits
shut-outside-report = refl

-- the inner one is
abbrev pub shut-inside : Scenario
shut-inside = record {
  seed = 1;
  topology = record {
    servers = record {
      name = name2 115 49;
      primary = ip 192 0 2 1;
      secondary = ip 192 0 2 2;
    } ∷ [];
    nats = record { name = name2 110 49; kind = kind.Port; external = ip 198 51 100 1; idle = 60000 }
        ∷ record { name = name2 110 51; kind = kind.Cone; external = ip 198 51 100 9; idle = 60000 } ∷ [];
    clients = record {
      name = name1 97;
      nat = 1;
      inside = ep (ip 10 0 0 2) 4000;
      server = 0;
      refresh = record { low_ms = 30000; high_ms = 30000 };
      random = false;
      cone_try = true;
    } ∷ [];
    relays = [];
    natives = [];
  };
  events = event.Advance 0 ∷ event.Next ∷ event.Next ∷ [];
}

pub shut-inside-report : report shut-inside.topology (play_behind some_words n1-behind-n3 shut-inside 8)
    ≡ codes
    "0 0 0 tick a rs_cone #0=198.51.100.9:1024>192.0.2.1:3544/61\n1 0 0 advance - done\n2 0 1 deliver:0 s1 advert #1=192.0.2.2:3544>198.51.100.9:1024/117\n3 0 2 deliver:1 n1 nat_closed\ntotal records 4 entries 2 delivered 2 handed 0 kept 0 dropped 1\n"
unfolding playing hex_groups_text hex digits
shut-inside-report = refl
