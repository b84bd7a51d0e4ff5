-- A send that was made to fail: the whole report, computed from the definitions.
use Rattle.worked_scenarios.proofs.Words.{Scenario, [], codes, digits, false, hex, hex_groups_text, refl, report, true, ◌∷◌, ◌≡◌}
use Rattle.nat_kinds.specs.declared.kind.NatKind.TheVariants as kind
use Rattle.events.specs.declared.event.Event.TheVariants as event
use Rattle.events.specs.declared.target.Target.TheVariants as target
use Rattle.worked_scenarios.proofs.Scenes.{name1, name2, ip, ep, some_words, play}
use Rattle.worked_scenarios.proofs.Playing.{playing}

abbrev pub faulty : Scenario
faulty = record {
  seed = 1;
  topology = record {
    servers = record { name = name2 115 49; primary = ip 192 0 2 1; secondary = ip 192 0 2 2 }
        ∷ [];
    nats = record { name = name2 110 49; kind = kind.Port; external = ip 198 51 100 1; idle = 60000 }
        ∷ record { name = name2 110 50; kind = kind.Port; external = ip 198 51 100 2; idle = 60000 } ∷ [];
    clients = record {
      name = name1 97;
      nat = 1;
      inside = ep (ip 10 0 0 2) 4000;
      server = 0;
      refresh = record { low_ms = 30000; high_ms = 30000 };
      random = false;
      cone_try = true;
    }
        ∷ record {
          name = name1 98;
          nat = 2;
          inside = ep (ip 10 0 0 3) 4000;
          server = 0;
          refresh = record { low_ms = 30000; high_ms = 30000 };
          random = false;
          cone_try = true;
        } ∷ [];
    relays = [];
    natives = [];
  };
  events = event.Advance 12000 ∷ event.Deliver 6 ∷ event.Deliver 7 ∷ event.Deliver 8 ∷ event.Deliver 9 ∷ event.Advance 0
      ∷ event.Deliver 10 ∷ event.Deliver 11 ∷ event.Deliver 12 ∷ event.Deliver 13 ∷ event.Fault 1
      ∷ event.Host 3 (target.Node 4) (104 ∷ 101 ∷ 108 ∷ 108 ∷ 111 ∷ []) ∷ event.Advance 2000 ∷ [];
}

pub faulty-report : report faulty.topology (play some_words faulty 28 [])
    ≡ codes
    "0 0 0 tick a rs_cone #0=198.51.100.1:1024>192.0.2.1:3544/61\n1 0 0 tick b rs_cone #1=198.51.100.2:1024>192.0.2.1:3544/61\n2 4000 0 tick a rs_cone #2=198.51.100.1:1024>192.0.2.1:3544/61\n3 4000 0 tick b rs_cone #3=198.51.100.2:1024>192.0.2.1:3544/61\n4 8000 0 tick a rs_cone #4=198.51.100.1:1024>192.0.2.1:3544/61\n5 8000 0 tick b rs_cone #5=198.51.100.2:1024>192.0.2.1:3544/61\n6 12000 0 tick a rs_restricted #6=198.51.100.1:1024>192.0.2.1:3544/61\n7 12000 0 tick b rs_restricted #7=198.51.100.2:1024>192.0.2.1:3544/61\n8 12000 0 advance - done\n9 12000 1 deliver:6 s1 advert #8=192.0.2.1:3544>198.51.100.1:1024/117\n10 12000 2 deliver:7 s1 advert #9=192.0.2.1:3544>198.51.100.2:1024/117\n11 12000 3 deliver:8 a first_answer\n12 12000 4 deliver:9 b first_answer\n13 12000 5 tick a rs_secondary #10=198.51.100.1:1024>192.0.2.2:3544/61\n14 12000 5 tick b rs_secondary #11=198.51.100.2:1024>192.0.2.2:3544/61\n15 12000 5 advance - done\n16 12000 6 deliver:10 s1 advert #12=192.0.2.2:3544>198.51.100.1:1024/117\n17 12000 7 deliver:11 s1 advert #13=192.0.2.2:3544>198.51.100.2:1024/117\n18 12000 8 deliver:12 a qualified_restricted is 2001:0:c000:201:0:fbff:39cc:9bfe\n19 12000 9 deliver:13 b qualified_restricted is 2001:0:c000:201:0:fbff:39cc:9bfd\n20 12000 10 fault - done\n21 12000 11 host a queued #14=198.51.100.1:1024>198.51.100.2:1024/40 !fault=192.0.2.1:3544/40\n22 14000 12 tick a bubbles #15=198.51.100.1:1024>198.51.100.2:1024/40 #16=198.51.100.1:1024>192.0.2.1:3544/40\n23 14000 12 advance - done\ntotal records 24 entries 17 delivered 8 handed 0 kept 0 dropped 0\n"
unfolding playing hex_groups_text hex digits
faulty-report = refl
