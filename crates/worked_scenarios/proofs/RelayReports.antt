-- Worked scenarios: the whole report of each, computed from the definitions.
use Rattle.worked_scenarios.proofs.Words.{Scenario, [], codes, digits, false, hex, hex_groups_text, refl, report, true, ◌∷◌, ◌≡◌}
use Rattle.nat_kinds.specs.declared.kind.NatKind.TheVariants as kind
use Rattle.events.specs.declared.event.Event.TheVariants as event
use Rattle.events.specs.declared.target.Target.TheVariants as target
use Rattle.worked_scenarios.proofs.Scenes.{name1, name2, ip, ip6, ep, some_words, play}
use Rattle.worked_scenarios.proofs.Playing.{playing}

abbrev pub relayed : Scenario
relayed = record {
  seed = 1;
  topology = record {
    servers = record { name = name2 115 49; primary = ip 192 0 2 1; secondary = ip 192 0 2 2 }
        ∷ [];
    nats = record { name = name2 110 49; kind = kind.Port; external = ip 198 51 100 1; idle = 60000 } ∷ [];
    clients = record {
      name = name1 97;
      nat = 1;
      inside = ep (ip 10 0 0 2) 4000;
      server = 0;
      refresh = record { low_ms = 30000; high_ms = 30000 };
      random = false;
      cone_try = true;
    } ∷ [];
    relays = record {
      name = name2 114 49;
      at = ep (ip 203 0 113 9) 3545;
      six = ip6 (32 ∷ 1 ∷ 13 ∷ 184 ∷ 0 ∷ 0 ∷ 0 ∷ 0 ∷ 0 ∷ 0 ∷ 0 ∷ 0 ∷ 0 ∷ 0 ∷ 0 ∷ 9 ∷ []);
    } ∷ [];
    natives = record { name = name2 104 49; six = ip6 (32 ∷ 1 ∷ 13 ∷ 184 ∷ 0 ∷ 0 ∷ 0 ∷ 0 ∷ 0 ∷ 0 ∷ 0 ∷ 0 ∷ 0 ∷ 0 ∷ 0 ∷ 1 ∷ []); relay = 3 }
        ∷ [];
  };
  events = event.Advance 0 ∷ event.Next ∷ event.Next ∷ event.Advance 12000 ∷ event.Deliver 4 ∷ event.Deliver 5 ∷ event.Advance 0
      ∷ event.Deliver 6 ∷ event.Deliver 7 ∷ event.Host 4 (target.Node 2) (3 ∷ []) ∷ event.Deliver 8 ∷ event.Deliver 9 ∷ event.Deliver 10
      ∷ event.Deliver 11 ∷ event.Deliver 12 ∷ event.Deliver 13 ∷ event.Deliver 14 ∷ event.Deliver 15 ∷ event.Deliver 16
      ∷ event.Host 4 (target.Node 2) (3 ∷ []) ∷ event.Deliver 17 ∷ event.Deliver 18 ∷ [];
}

pub relayed-report : report relayed.topology (play some_words relayed 28 [])
    ≡ codes
    "0 0 0 tick a rs_cone #0=198.51.100.1:1024>192.0.2.1:3544/61\n1 0 0 advance - done\n2 0 1 deliver:0 s1 advert #1=192.0.2.2:3544>198.51.100.1:1024/117\n3 0 2 deliver:1 n1 nat_closed\n4 4000 3 tick a rs_cone #2=198.51.100.1:1024>192.0.2.1:3544/61\n5 8000 3 tick a rs_cone #3=198.51.100.1:1024>192.0.2.1:3544/61\n6 12000 3 tick a rs_restricted #4=198.51.100.1:1024>192.0.2.1:3544/61\n7 12000 3 advance - done\n8 12000 4 deliver:4 s1 advert #5=192.0.2.1:3544>198.51.100.1:1024/117\n9 12000 5 deliver:5 a first_answer\n10 12000 6 tick a rs_secondary #6=198.51.100.1:1024>192.0.2.2:3544/61\n11 12000 6 advance - done\n12 12000 7 deliver:6 s1 advert #7=192.0.2.2:3544>198.51.100.1:1024/117\n13 12000 8 deliver:7 a qualified_restricted is 2001:0:c000:201:0:fbff:39cc:9bfe\n14 12000 9 host h1 sent_six #8=six:r1/41\n15 12000 10 deliver:8 r1 queued #9=203.0.113.9:3545>192.0.2.1:3544/40\n16 12000 11 deliver:9 s1 forward_origin #10=192.0.2.1:3544>198.51.100.1:1024/48\n17 12000 12 deliver:10 a indirect #11=198.51.100.1:1024>203.0.113.9:3545/40\n18 12000 13 deliver:11 r1 from_client_bubble #12=203.0.113.9:3545>198.51.100.1:1024/41\n19 12000 14 deliver:12 a held_test #13=198.51.100.1:1024>192.0.2.1:3544/56\n20 12000 15 deliver:13 s1 six #14=six/56\n21 12000 16 deliver:14 h1 echoed #15=six:r1/56\n22 12000 17 deliver:15 r1 sent #16=203.0.113.9:3545>198.51.100.1:1024/56\n23 12000 18 deliver:16 a rule2 late/41\n24 12000 19 host h1 sent_six #17=six:r1/41\n25 12000 20 deliver:17 r1 sent #18=203.0.113.9:3545>198.51.100.1:1024/41\n26 12000 21 deliver:18 a rule1 handed/41\ntotal records 27 entries 19 delivered 17 handed 2 kept 0 dropped 1\n"
unfolding playing hex_groups_text hex digits
relayed-report = refl
