-- All that is on the wire is delivered: the whole report, computed from the definitions.
use Rattle.worked_scenarios.proofs.Words.{Scenario, [], codes, digits, false, hex, hex_groups_text, refl, report, true, ◌∷◌, ◌≡◌}
use Rattle.nat_kinds.specs.declared.kind.NatKind.TheVariants as kind
use Rattle.events.specs.declared.event.Event.TheVariants as event
use Rattle.events.specs.declared.target.Target.TheVariants as target
use Rattle.worked_scenarios.proofs.Scenes.{name1, name2, ip, ep, some_words, play}
use Rattle.worked_scenarios.proofs.Playing.{playing}

abbrev pub settled : Scenario
settled = record {
  seed = 1;
  topology = record {
    servers = record { name = name2 115 49; primary = ip 192 0 2 1; secondary = ip 192 0 2 2 }
        ∷ [];
    nats = record { name = name2 110 49; kind = kind.Port; external = ip 198 51 100 1; idle = 60000 }
        ∷ record { name = name2 110 50; kind = kind.Port; external = ip 198 51 100 2; idle = 60000 } ∷ [];
    clients = record {
      name = name1 97;
      nat = 1;
      inside = ep (ip 10 0 0 2) 4000;
      server = 0;
      refresh = record { low_ms = 30000; high_ms = 30000 };
      random = false;
      cone_try = true;
    }
        ∷ record {
          name = name1 98;
          nat = 2;
          inside = ep (ip 10 0 0 3) 4000;
          server = 0;
          refresh = record { low_ms = 30000; high_ms = 30000 };
          random = false;
          cone_try = true;
        } ∷ [];
    relays = [];
    natives = [];
  };
  events = event.Advance 12000 ∷ event.Deliver 6 ∷ event.Deliver 7 ∷ event.Deliver 8 ∷ event.Deliver 9 ∷ event.Advance 0
      ∷ event.Deliver 10 ∷ event.Deliver 11 ∷ event.Deliver 12 ∷ event.Deliver 13
      ∷ event.Host 3 (target.Node 4) (104 ∷ 101 ∷ 108 ∷ 108 ∷ 111 ∷ []) ∷ event.Settle ∷ [];
}

pub settled-report : report settled.topology (play some_words settled 43 [])
    ≡ codes
    "0 0 0 tick a rs_cone #0=198.51.100.1:1024>192.0.2.1:3544/61\n1 0 0 tick b rs_cone #1=198.51.100.2:1024>192.0.2.1:3544/61\n2 4000 0 tick a rs_cone #2=198.51.100.1:1024>192.0.2.1:3544/61\n3 4000 0 tick b rs_cone #3=198.51.100.2:1024>192.0.2.1:3544/61\n4 8000 0 tick a rs_cone #4=198.51.100.1:1024>192.0.2.1:3544/61\n5 8000 0 tick b rs_cone #5=198.51.100.2:1024>192.0.2.1:3544/61\n6 12000 0 tick a rs_restricted #6=198.51.100.1:1024>192.0.2.1:3544/61\n7 12000 0 tick b rs_restricted #7=198.51.100.2:1024>192.0.2.1:3544/61\n8 12000 0 advance - done\n9 12000 1 deliver:6 s1 advert #8=192.0.2.1:3544>198.51.100.1:1024/117\n10 12000 2 deliver:7 s1 advert #9=192.0.2.1:3544>198.51.100.2:1024/117\n11 12000 3 deliver:8 a first_answer\n12 12000 4 deliver:9 b first_answer\n13 12000 5 tick a rs_secondary #10=198.51.100.1:1024>192.0.2.2:3544/61\n14 12000 5 tick b rs_secondary #11=198.51.100.2:1024>192.0.2.2:3544/61\n15 12000 5 advance - done\n16 12000 6 deliver:10 s1 advert #12=192.0.2.2:3544>198.51.100.1:1024/117\n17 12000 7 deliver:11 s1 advert #13=192.0.2.2:3544>198.51.100.2:1024/117\n18 12000 8 deliver:12 a qualified_restricted is 2001:0:c000:201:0:fbff:39cc:9bfe\n19 12000 9 deliver:13 b qualified_restricted is 2001:0:c000:201:0:fbff:39cc:9bfd\n20 12000 10 host a queued #14=198.51.100.1:1024>198.51.100.2:1024/40 #15=198.51.100.1:1024>192.0.2.1:3544/40\n21 12000 11 deliver:0 s1 advert #16=192.0.2.2:3544>198.51.100.1:1024/117\n22 12000 11 deliver:1 s1 advert #17=192.0.2.2:3544>198.51.100.2:1024/117\n23 12000 11 deliver:2 s1 advert #18=192.0.2.2:3544>198.51.100.1:1024/117\n24 12000 11 deliver:3 s1 advert #19=192.0.2.2:3544>198.51.100.2:1024/117\n25 12000 11 deliver:4 s1 advert #20=192.0.2.2:3544>198.51.100.1:1024/117\n26 12000 11 deliver:5 s1 advert #21=192.0.2.2:3544>198.51.100.2:1024/117\n27 12000 11 deliver:14 n2 nat_closed\n28 12000 11 deliver:15 s1 forward_origin #22=192.0.2.1:3544>198.51.100.2:1024/48\n29 12000 11 deliver:16 a nonce\n30 12000 11 deliver:17 b nonce\n31 12000 11 deliver:18 a nonce\n32 12000 11 deliver:19 b nonce\n33 12000 11 deliver:20 a nonce\n34 12000 11 deliver:21 b nonce\n35 12000 11 deliver:22 b indirect #23=198.51.100.2:1024>198.51.100.1:1024/40\n36 12000 11 deliver:23 a rule3_bubble #24=198.51.100.1:1024>198.51.100.2:1024/45\n37 12000 11 deliver:24 b rule3 handed/45\n38 12000 11 settle - done\ntotal records 39 entries 25 delivered 25 handed 1 kept 0 dropped 7\n"
unfolding playing hex_groups_text hex digits
settled-report = refl
