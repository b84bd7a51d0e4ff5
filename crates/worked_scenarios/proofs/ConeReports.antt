-- Worked scenarios: the whole report of each, computed from the definitions.
use Rattle.worked_scenarios.proofs.Words.{Scenario, [], codes, digits, false, hex, hex_groups_text, refl, report, true, ◌∷◌, ◌≡◌}
use Rattle.nat_kinds.specs.declared.kind.NatKind.TheVariants as kind
use Rattle.events.specs.declared.event.Event.TheVariants as event
use Rattle.events.specs.declared.target.Target.TheVariants as target
use Rattle.worked_scenarios.proofs.Scenes.{name1, name2, ip, ep, some_words, play}
use Rattle.worked_scenarios.proofs.Playing.{playing}

abbrev pub cone-sends : Scenario
cone-sends = record {
  seed = 1;
  topology = record {
    servers = record {
      name = name2 115 49;
      primary = ip 192 0 2 1;
      secondary = ip 192 0 2 2;
    } ∷ [];
    nats = record { name = name2 110 49; kind = kind.Cone; external = ip 198 51 100 1; idle = 60000 }
        ∷ record { name = name2 110 50; kind = kind.Port; external = ip 198 51 100 2; idle = 60000 } ∷ [];
    clients = record {
      name = name1 97;
      nat = 1;
      inside = ep (ip 10 0 0 2) 4000;
      server = 0;
      refresh = record { low_ms = 30000; high_ms = 30000 };
      random = false;
      cone_try = true;
    }
        ∷ record {
          name = name1 98;
          nat = 2;
          inside = ep (ip 10 0 0 3) 4000;
          server = 0;
          refresh = record { low_ms = 30000; high_ms = 30000 };
          random = false;
          cone_try = true;
        } ∷ [];
    relays = [];
    natives = [];
  };
  events = event.Advance 0 ∷ event.Deliver 0 ∷ event.Deliver 2 ∷ event.Advance 12000 ∷ event.Deliver 5 ∷ event.Deliver 6 ∷ event.Advance 0
      ∷ event.Deliver 7 ∷ event.Deliver 8 ∷ event.Host 3 (target.Node 4) (1 ∷ []) ∷ event.Deliver 9 ∷ event.Deliver 10 ∷ event.Deliver 11
      ∷ event.Deliver 12 ∷ [];
}

pub cone-sends-report : report cone-sends.topology (play some_words cone-sends 21 [])
    ≡ codes
    "0 0 0 tick a rs_cone #0=198.51.100.1:1024>192.0.2.1:3544/61\n1 0 0 tick b rs_cone #1=198.51.100.2:1024>192.0.2.1:3544/61\n2 0 0 advance - done\n3 0 1 deliver:0 s1 advert #2=192.0.2.2:3544>198.51.100.1:1024/117\n4 0 2 deliver:2 a qualified_cone is 2001:0:c000:201:8000:fbff:39cc:9bfe\n5 4000 3 tick b rs_cone #3=198.51.100.2:1024>192.0.2.1:3544/61\n6 8000 3 tick b rs_cone #4=198.51.100.2:1024>192.0.2.1:3544/61\n7 12000 3 tick b rs_restricted #5=198.51.100.2:1024>192.0.2.1:3544/61\n8 12000 3 advance - done\n9 12000 4 deliver:5 s1 advert #6=192.0.2.1:3544>198.51.100.2:1024/117\n10 12000 5 deliver:6 b first_answer\n11 12000 6 tick b rs_secondary #7=198.51.100.2:1024>192.0.2.2:3544/61\n12 12000 6 advance - done\n13 12000 7 deliver:7 s1 advert #8=192.0.2.2:3544>198.51.100.2:1024/117\n14 12000 8 deliver:8 b qualified_restricted is 2001:0:c000:201:0:fbff:39cc:9bfd\n15 12000 9 host a queued #9=198.51.100.1:1024>192.0.2.1:3544/40\n16 12000 10 deliver:9 s1 forward_origin #10=192.0.2.1:3544>198.51.100.2:1024/48\n17 12000 11 deliver:10 b indirect #11=198.51.100.2:1024>198.51.100.1:1024/40\n18 12000 12 deliver:11 a rule3_bubble #12=198.51.100.1:1024>198.51.100.2:1024/41\n19 12000 13 deliver:12 b rule3 handed/41\ntotal records 20 entries 13 delivered 10 handed 1 kept 0 dropped 0\n"
unfolding playing hex_groups_text hex digits
cone-sends-report = refl

abbrev pub cone-receives : Scenario
cone-receives = record {
  seed = 1;
  topology = record {
    servers = record {
      name = name2 115 49;
      primary = ip 192 0 2 1;
      secondary = ip 192 0 2 2;
    } ∷ [];
    nats = record { name = name2 110 49; kind = kind.Cone; external = ip 198 51 100 1; idle = 60000 }
        ∷ record { name = name2 110 50; kind = kind.Port; external = ip 198 51 100 2; idle = 60000 } ∷ [];
    clients = record {
      name = name1 97;
      nat = 1;
      inside = ep (ip 10 0 0 2) 4000;
      server = 0;
      refresh = record { low_ms = 30000; high_ms = 30000 };
      random = false;
      cone_try = true;
    }
        ∷ record {
          name = name1 98;
          nat = 2;
          inside = ep (ip 10 0 0 3) 4000;
          server = 0;
          refresh = record { low_ms = 30000; high_ms = 30000 };
          random = false;
          cone_try = true;
        } ∷ [];
    relays = [];
    natives = [];
  };
  events = event.Advance 0 ∷ event.Deliver 0 ∷ event.Deliver 2 ∷ event.Advance 12000 ∷ event.Deliver 5 ∷ event.Deliver 6 ∷ event.Advance 0
      ∷ event.Deliver 7 ∷ event.Deliver 8 ∷ event.Host 4 (target.Node 3) (2 ∷ []) ∷ event.Deliver 9
      ∷ event.Copy 9 (ep (ip 203 0 113 5) 1024) (ep (ip 198 51 100 1) 1024) ∷ event.Deliver 10 ∷ [];
}

pub cone-receives-report : report cone-receives.topology (play some_words cone-receives 20 [])
    ≡ codes
    "0 0 0 tick a rs_cone #0=198.51.100.1:1024>192.0.2.1:3544/61\n1 0 0 tick b rs_cone #1=198.51.100.2:1024>192.0.2.1:3544/61\n2 0 0 advance - done\n3 0 1 deliver:0 s1 advert #2=192.0.2.2:3544>198.51.100.1:1024/117\n4 0 2 deliver:2 a qualified_cone is 2001:0:c000:201:8000:fbff:39cc:9bfe\n5 4000 3 tick b rs_cone #3=198.51.100.2:1024>192.0.2.1:3544/61\n6 8000 3 tick b rs_cone #4=198.51.100.2:1024>192.0.2.1:3544/61\n7 12000 3 tick b rs_restricted #5=198.51.100.2:1024>192.0.2.1:3544/61\n8 12000 3 advance - done\n9 12000 4 deliver:5 s1 advert #6=192.0.2.1:3544>198.51.100.2:1024/117\n10 12000 5 deliver:6 b first_answer\n11 12000 6 tick b rs_secondary #7=198.51.100.2:1024>192.0.2.2:3544/61\n12 12000 6 advance - done\n13 12000 7 deliver:7 s1 advert #8=192.0.2.2:3544>198.51.100.2:1024/117\n14 12000 8 deliver:8 b qualified_restricted is 2001:0:c000:201:0:fbff:39cc:9bfd\n15 12000 9 host b sent_cone #9=198.51.100.2:1024>198.51.100.1:1024/41\n16 12000 10 deliver:9 a rule3 handed/41\n17 12000 11 copy:9 - put #10=203.0.113.5:1024>198.51.100.1:1024/41\n18 12000 12 deliver:10 a mismatch\ntotal records 19 entries 11 delivered 8 handed 1 kept 0 dropped 1\n"
unfolding playing hex_groups_text hex digits
cone-receives-report = refl
