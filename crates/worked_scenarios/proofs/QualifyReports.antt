-- Worked scenarios: the whole report of each, computed from the definitions.
use Rattle.worked_scenarios.proofs.Words.{Scenario, [], codes, digits, false, hex, hex_groups_text, refl, report, true, ◌∷◌, ◌≡◌}
use Rattle.nat_kinds.specs.declared.kind.NatKind.TheVariants as kind
use Rattle.events.specs.declared.event.Event.TheVariants as event
use Rattle.events.specs.declared.target.Target.TheVariants as target
use Rattle.worked_scenarios.proofs.Scenes.{name1, name2, ip, ip6, ep, some_words, play}
use Rattle.worked_scenarios.proofs.Playing.{playing}

abbrev pub cone-nat : Scenario
cone-nat = record {
  seed = 1;
  topology = record {
    servers = record { name = name2 115 49; primary = ip 192 0 2 1; secondary = ip 192 0 2 2 }
        ∷ [];
    nats = record { name = name2 110 49; kind = kind.Cone; external = ip 198 51 100 1; idle = 60000 } ∷ [];
    clients = record {
      name = name1 97;
      nat = 1;
      inside = ep (ip 10 0 0 2) 4000;
      server = 0;
      refresh = record { low_ms = 30000; high_ms = 30000 };
      random = false;
      cone_try = true;
    } ∷ [];
    relays = [];
    natives = [];
  };
  events = event.Advance 0 ∷ event.Next ∷ event.Next ∷ [];
}

pub cone-nat-report : report cone-nat.topology (play some_words cone-nat 5 [])
    ≡ codes
    "0 0 0 tick a rs_cone #0=198.51.100.1:1024>192.0.2.1:3544/61\n1 0 0 advance - done\n2 0 1 deliver:0 s1 advert #1=192.0.2.2:3544>198.51.100.1:1024/117\n3 0 2 deliver:1 a qualified_cone is 2001:0:c000:201:8000:fbff:39cc:9bfe\ntotal records 4 entries 2 delivered 2 handed 0 kept 0 dropped 0\n"
unfolding playing hex_groups_text hex digits
cone-nat-report = refl

abbrev pub port-nat : Scenario
port-nat = record {
  seed = 1;
  topology = record {
    servers = record { name = name2 115 49; primary = ip 192 0 2 1; secondary = ip 192 0 2 2 }
        ∷ [];
    nats = record { name = name2 110 49; kind = kind.Port; external = ip 198 51 100 1; idle = 60000 } ∷ [];
    clients = record {
      name = name1 97;
      nat = 1;
      inside = ep (ip 10 0 0 2) 4000;
      server = 0;
      refresh = record { low_ms = 30000; high_ms = 30000 };
      random = false;
      cone_try = true;
    } ∷ [];
    relays = [];
    natives = [];
  };
  events = event.Advance 0 ∷ event.Next ∷ event.Next ∷ event.Advance 12000 ∷ event.Deliver 4 ∷ event.Deliver 5 ∷ event.Advance 0
      ∷ event.Deliver 6 ∷ event.Deliver 7 ∷ [];
}

pub port-nat-report : report port-nat.topology (play some_words port-nat 15 [])
    ≡ codes
    "0 0 0 tick a rs_cone #0=198.51.100.1:1024>192.0.2.1:3544/61\n1 0 0 advance - done\n2 0 1 deliver:0 s1 advert #1=192.0.2.2:3544>198.51.100.1:1024/117\n3 0 2 deliver:1 n1 nat_closed\n4 4000 3 tick a rs_cone #2=198.51.100.1:1024>192.0.2.1:3544/61\n5 8000 3 tick a rs_cone #3=198.51.100.1:1024>192.0.2.1:3544/61\n6 12000 3 tick a rs_restricted #4=198.51.100.1:1024>192.0.2.1:3544/61\n7 12000 3 advance - done\n8 12000 4 deliver:4 s1 advert #5=192.0.2.1:3544>198.51.100.1:1024/117\n9 12000 5 deliver:5 a first_answer\n10 12000 6 tick a rs_secondary #6=198.51.100.1:1024>192.0.2.2:3544/61\n11 12000 6 advance - done\n12 12000 7 deliver:6 s1 advert #7=192.0.2.2:3544>198.51.100.1:1024/117\n13 12000 8 deliver:7 a qualified_restricted is 2001:0:c000:201:0:fbff:39cc:9bfe\ntotal records 14 entries 8 delivered 6 handed 0 kept 0 dropped 1\n"
unfolding playing hex_groups_text hex digits
port-nat-report = refl

abbrev pub no-cone-phase : Scenario
no-cone-phase = record {
  seed = 1;
  topology = record {
    servers = record {
      name = name2 115 49;
      primary = ip 192 0 2 1;
      secondary = ip 192 0 2 2;
    } ∷ [];
    nats = record { name = name2 110 49; kind = kind.Port; external = ip 198 51 100 1; idle = 60000 } ∷ [];
    clients = record {
      name = name1 97;
      nat = 1;
      inside = ep (ip 10 0 0 2) 4000;
      server = 0;
      refresh = record { low_ms = 30000; high_ms = 30000 };
      random = false;
      cone_try = false;
    } ∷ [];
    relays = [];
    natives = [];
  };
  events = event.Advance 0 ∷ event.Next ∷ event.Next ∷ event.Advance 0 ∷ event.Next ∷ event.Next ∷ event.Restart 2 ∷ event.Advance 0
      ∷ event.Next ∷ event.Next ∷ event.Advance 0 ∷ event.Next ∷ event.Next ∷ [];
}

pub no-cone-phase-report : report no-cone-phase.topology (play some_words no-cone-phase 18 [])
    ≡ codes
    "0 0 0 tick a rs_restricted #0=198.51.100.1:1024>192.0.2.1:3544/61\n1 0 0 advance - done\n2 0 1 deliver:0 s1 advert #1=192.0.2.1:3544>198.51.100.1:1024/117\n3 0 2 deliver:1 a first_answer\n4 0 3 tick a rs_secondary #2=198.51.100.1:1024>192.0.2.2:3544/61\n5 0 3 advance - done\n6 0 4 deliver:2 s1 advert #3=192.0.2.2:3544>198.51.100.1:1024/117\n7 0 5 deliver:3 a qualified_restricted is 2001:0:c000:201:0:fbff:39cc:9bfe\n8 0 6 restart a done\n9 0 7 tick a rs_restricted #4=198.51.100.1:1024>192.0.2.1:3544/61\n10 0 7 advance - done\n11 0 8 deliver:4 s1 advert #5=192.0.2.1:3544>198.51.100.1:1024/117\n12 0 9 deliver:5 a first_answer\n13 0 10 tick a rs_secondary #6=198.51.100.1:1024>192.0.2.2:3544/61\n14 0 10 advance - done\n15 0 11 deliver:6 s1 advert #7=192.0.2.2:3544>198.51.100.1:1024/117\n16 0 12 deliver:7 a qualified_restricted is 2001:0:c000:201:0:fbff:39cc:9bfe\ntotal records 17 entries 8 delivered 8 handed 0 kept 0 dropped 0\n"
unfolding playing hex_groups_text hex digits
no-cone-phase-report = refl

abbrev pub symmetric-nat : Scenario
symmetric-nat = record {
  seed = 1;
  topology = record {
    servers = record {
      name = name2 115 49;
      primary = ip 192 0 2 1;
      secondary = ip 192 0 2 2;
    } ∷ [];
    nats = record { name = name2 110 49; kind = kind.Symmetric; external = ip 198 51 100 1; idle = 60000 }
        ∷ [];
    clients = record {
      name = name1 97;
      nat = 1;
      inside = ep (ip 10 0 0 2) 4000;
      server = 0;
      refresh = record { low_ms = 30000; high_ms = 30000 };
      random = false;
      cone_try = true;
    } ∷ [];
    relays = [];
    natives = [];
  };
  events = event.Advance 0 ∷ event.Next ∷ event.Next ∷ event.Advance 12000 ∷ event.Deliver 4 ∷ event.Deliver 5 ∷ event.Advance 0
      ∷ event.Deliver 6 ∷ event.Deliver 7 ∷ [];
}

pub symmetric-nat-report : report symmetric-nat.topology (play some_words symmetric-nat 15 [])
    ≡ codes
    "0 0 0 tick a rs_cone #0=198.51.100.1:1024>192.0.2.1:3544/61\n1 0 0 advance - done\n2 0 1 deliver:0 s1 advert #1=192.0.2.2:3544>198.51.100.1:1024/117\n3 0 2 deliver:1 n1 nat_closed\n4 4000 3 tick a rs_cone #2=198.51.100.1:1024>192.0.2.1:3544/61\n5 8000 3 tick a rs_cone #3=198.51.100.1:1024>192.0.2.1:3544/61\n6 12000 3 tick a rs_restricted #4=198.51.100.1:1024>192.0.2.1:3544/61\n7 12000 3 advance - done\n8 12000 4 deliver:4 s1 advert #5=192.0.2.1:3544>198.51.100.1:1024/117\n9 12000 5 deliver:5 a first_answer\n10 12000 6 tick a rs_secondary #6=198.51.100.1:1025>192.0.2.2:3544/61\n11 12000 6 advance - done\n12 12000 7 deliver:6 s1 advert #7=192.0.2.2:3544>198.51.100.1:1025/117\n13 12000 8 deliver:7 a symmetric\ntotal records 14 entries 8 delivered 6 handed 0 kept 0 dropped 1\n"
unfolding playing hex_groups_text hex digits
symmetric-nat-report = refl

abbrev pub symmetric-host : Scenario
symmetric-host = record {
  seed = 1;
  topology = record {
    servers = record {
      name = name2 115 49;
      primary = ip 192 0 2 1;
      secondary = ip 192 0 2 2;
    } ∷ [];
    nats = record { name = name2 110 49; kind = kind.Symmetric; external = ip 198 51 100 1; idle = 60000 }
        ∷ [];
    clients = record {
      name = name1 97;
      nat = 1;
      inside = ep (ip 10 0 0 2) 4000;
      server = 0;
      refresh = record { low_ms = 30000; high_ms = 30000 };
      random = false;
      cone_try = true;
    } ∷ [];
    relays = [];
    natives = [];
  };
  events = event.Advance 0 ∷ event.Next ∷ event.Next ∷ event.Advance 12000 ∷ event.Deliver 4 ∷ event.Deliver 5 ∷ event.Advance 0
      ∷ event.Deliver 6 ∷ event.Deliver 7 ∷ event.Host 2 (target.At (ip6 (32 ∷ 1 ∷ 13 ∷ 184 ∷ 0 ∷ 0 ∷ 0 ∷ 0 ∷ 0 ∷ 0 ∷ 0 ∷ 0 ∷ 0 ∷ 0 ∷ 0 ∷ 1 ∷ []))) ([]) ∷ [];
}

pub symmetric-host-report : report symmetric-host.topology (play some_words symmetric-host 16 [])
    ≡ codes
    "0 0 0 tick a rs_cone #0=198.51.100.1:1024>192.0.2.1:3544/61\n1 0 0 advance - done\n2 0 1 deliver:0 s1 advert #1=192.0.2.2:3544>198.51.100.1:1024/117\n3 0 2 deliver:1 n1 nat_closed\n4 4000 3 tick a rs_cone #2=198.51.100.1:1024>192.0.2.1:3544/61\n5 8000 3 tick a rs_cone #3=198.51.100.1:1024>192.0.2.1:3544/61\n6 12000 3 tick a rs_restricted #4=198.51.100.1:1024>192.0.2.1:3544/61\n7 12000 3 advance - done\n8 12000 4 deliver:4 s1 advert #5=192.0.2.1:3544>198.51.100.1:1024/117\n9 12000 5 deliver:5 a first_answer\n10 12000 6 tick a rs_secondary #6=198.51.100.1:1025>192.0.2.2:3544/61\n11 12000 6 advance - done\n12 12000 7 deliver:6 s1 advert #7=192.0.2.2:3544>198.51.100.1:1025/117\n13 12000 8 deliver:7 a symmetric\n14 12000 9 host a off\ntotal records 15 entries 8 delivered 6 handed 0 kept 0 dropped 2\n"
unfolding playing hex_groups_text hex digits
symmetric-host-report = refl

abbrev pub early-restart : Scenario
early-restart = record {
  seed = 1;
  topology = record {
    servers = record {
      name = name2 115 49;
      primary = ip 192 0 2 1;
      secondary = ip 192 0 2 2;
    } ∷ [];
    nats = record { name = name2 110 49; kind = kind.Port; external = ip 198 51 100 1; idle = 60000 } ∷ [];
    clients = record {
      name = name1 97;
      nat = 1;
      inside = ep (ip 10 0 0 2) 4000;
      server = 0;
      refresh = record { low_ms = 30000; high_ms = 30000 };
      random = false;
      cone_try = true;
    } ∷ [];
    relays = [];
    natives = [];
  };
  events = event.Advance 0 ∷ event.Next ∷ event.Next ∷ event.Advance 12000 ∷ event.Deliver 4 ∷ event.Deliver 5 ∷ event.Advance 0
      ∷ event.Deliver 6 ∷ event.Deliver 7 ∷ event.Advance 8000 ∷ event.Restart 2 ∷ event.Advance 0 ∷ event.Deliver 8 ∷ event.Deliver 9 ∷ [];
}

pub early-restart-report : report early-restart.topology (play some_words early-restart 21 [])
    ≡ codes
    "0 0 0 tick a rs_cone #0=198.51.100.1:1024>192.0.2.1:3544/61\n1 0 0 advance - done\n2 0 1 deliver:0 s1 advert #1=192.0.2.2:3544>198.51.100.1:1024/117\n3 0 2 deliver:1 n1 nat_closed\n4 4000 3 tick a rs_cone #2=198.51.100.1:1024>192.0.2.1:3544/61\n5 8000 3 tick a rs_cone #3=198.51.100.1:1024>192.0.2.1:3544/61\n6 12000 3 tick a rs_restricted #4=198.51.100.1:1024>192.0.2.1:3544/61\n7 12000 3 advance - done\n8 12000 4 deliver:4 s1 advert #5=192.0.2.1:3544>198.51.100.1:1024/117\n9 12000 5 deliver:5 a first_answer\n10 12000 6 tick a rs_secondary #6=198.51.100.1:1024>192.0.2.2:3544/61\n11 12000 6 advance - done\n12 12000 7 deliver:6 s1 advert #7=192.0.2.2:3544>198.51.100.1:1024/117\n13 12000 8 deliver:7 a qualified_restricted is 2001:0:c000:201:0:fbff:39cc:9bfe\n14 20000 9 advance - done\n15 20000 10 restart a done\n16 20000 11 tick a rs_cone #8=198.51.100.1:1024>192.0.2.1:3544/61\n17 20000 11 advance - done\n18 20000 12 deliver:8 s1 advert #9=192.0.2.2:3544>198.51.100.1:1024/117\n19 20000 13 deliver:9 a qualified_cone is 2001:0:c000:201:8000:fbff:39cc:9bfe\ntotal records 20 entries 10 delivered 8 handed 0 kept 0 dropped 1\n"
unfolding playing hex_groups_text hex digits
early-restart-report = refl

abbrev pub refresh : Scenario
refresh = record {
  seed = 1;
  topology = record {
    servers = record { name = name2 115 49; primary = ip 192 0 2 1; secondary = ip 192 0 2 2 }
        ∷ [];
    nats = record { name = name2 110 49; kind = kind.Port; external = ip 198 51 100 1; idle = 60000 } ∷ [];
    clients = record {
      name = name1 97;
      nat = 1;
      inside = ep (ip 10 0 0 2) 4000;
      server = 0;
      refresh = record { low_ms = 30000; high_ms = 30000 };
      random = false;
      cone_try = true;
    } ∷ [];
    relays = [];
    natives = [];
  };
  events = event.Advance 0 ∷ event.Next ∷ event.Next ∷ event.Advance 12000 ∷ event.Deliver 4 ∷ event.Deliver 5 ∷ event.Advance 0
      ∷ event.Deliver 6 ∷ event.Deliver 7 ∷ event.Advance 30000 ∷ event.Deliver 8 ∷ event.Deliver 9 ∷ [];
}

pub refresh-report : report refresh.topology (play some_words refresh 19 [])
    ≡ codes
    "0 0 0 tick a rs_cone #0=198.51.100.1:1024>192.0.2.1:3544/61\n1 0 0 advance - done\n2 0 1 deliver:0 s1 advert #1=192.0.2.2:3544>198.51.100.1:1024/117\n3 0 2 deliver:1 n1 nat_closed\n4 4000 3 tick a rs_cone #2=198.51.100.1:1024>192.0.2.1:3544/61\n5 8000 3 tick a rs_cone #3=198.51.100.1:1024>192.0.2.1:3544/61\n6 12000 3 tick a rs_restricted #4=198.51.100.1:1024>192.0.2.1:3544/61\n7 12000 3 advance - done\n8 12000 4 deliver:4 s1 advert #5=192.0.2.1:3544>198.51.100.1:1024/117\n9 12000 5 deliver:5 a first_answer\n10 12000 6 tick a rs_secondary #6=198.51.100.1:1024>192.0.2.2:3544/61\n11 12000 6 advance - done\n12 12000 7 deliver:6 s1 advert #7=192.0.2.2:3544>198.51.100.1:1024/117\n13 12000 8 deliver:7 a qualified_restricted is 2001:0:c000:201:0:fbff:39cc:9bfe\n14 42000 9 tick a refresh #8=198.51.100.1:1024>192.0.2.1:3544/61\n15 42000 9 advance - done\n16 42000 10 deliver:8 s1 advert #9=192.0.2.1:3544>198.51.100.1:1024/117\n17 42000 11 deliver:9 a same\ntotal records 18 entries 10 delivered 8 handed 0 kept 0 dropped 1\n"
unfolding playing hex_groups_text hex digits
refresh-report = refl
