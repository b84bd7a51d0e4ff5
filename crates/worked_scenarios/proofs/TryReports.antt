-- Worked scenarios: the whole report of each, computed from the definitions.
use Rattle.worked_scenarios.proofs.Words.{Scenario, [], codes, digits, false, hex, hex_groups_text, refl, report, true, ◌∷◌, ◌≡◌}
use Rattle.nat_kinds.specs.declared.kind.NatKind.TheVariants as kind
use Rattle.events.specs.declared.event.Event.TheVariants as event
use Rattle.events.specs.declared.target.Target.TheVariants as target
use Rattle.worked_scenarios.proofs.Scenes.{name1, name2, ip, ip6, ep, some_words, play}
use Rattle.worked_scenarios.proofs.Playing.{playing}

abbrev pub barred : Scenario
barred = record {
  seed = 1;
  topology = record {
    servers = record { name = name2 115 49; primary = ip 192 0 2 1; secondary = ip 192 0 2 2 }
        ∷ [];
    nats = record { name = name2 110 49; kind = kind.Port; external = ip 198 51 100 1; idle = 60000 } ∷ [];
    clients = record {
      name = name1 97;
      nat = 1;
      inside = ep (ip 10 0 0 2) 4000;
      server = 0;
      refresh = record { low_ms = 30000; high_ms = 30000 };
      random = false;
      cone_try = true;
    } ∷ [];
    relays = [];
    natives = [];
  };
  events = event.Advance 0 ∷ event.Next ∷ event.Next ∷ event.Advance 12000 ∷ event.Deliver 4 ∷ event.Deliver 5 ∷ event.Advance 0
      ∷ event.Deliver 6 ∷ event.Deliver 7 ∷ event.Host 2 (target.At
      (ip6 (32 ∷ 1 ∷ 0 ∷ 0 ∷ 192 ∷ 0 ∷ 2 ∷ 1 ∷ 0 ∷ 0 ∷ 251 ∷ 255 ∷ 57 ∷ 204 ∷ 155 ∷ 253 ∷ []))) (4 ∷ []) ∷ event.Advance 8000
      ∷ event.Host 2 (target.At (ip6 (32 ∷ 1 ∷ 0 ∷ 0 ∷ 192 ∷ 0 ∷ 2 ∷ 1 ∷ 0 ∷ 0 ∷ 251 ∷ 255 ∷ 57 ∷ 204 ∷ 155 ∷ 253 ∷ []))) (4 ∷ [])
      ∷ event.Advance 291999 ∷ event.Host 2 (target.At (ip6 (32 ∷ 1 ∷ 0 ∷ 0 ∷ 192 ∷ 0 ∷ 2 ∷ 1 ∷ 0 ∷ 0 ∷ 251 ∷ 255 ∷ 57 ∷ 204 ∷ 155 ∷ 253
      ∷ []))) (4 ∷ []) ∷ event.Advance 1 ∷ event.Host 2 (target.At
      (ip6 (32 ∷ 1 ∷ 0 ∷ 0 ∷ 192 ∷ 0 ∷ 2 ∷ 1 ∷ 0 ∷ 0 ∷ 251 ∷ 255 ∷ 57 ∷ 204 ∷ 155 ∷ 253 ∷ []))) (4 ∷ []) ∷ [];
}

pub barred-report : report barred.topology (play some_words barred 36 [])
    ≡ codes
    "0 0 0 tick a rs_cone #0=198.51.100.1:1024>192.0.2.1:3544/61\n1 0 0 advance - done\n2 0 1 deliver:0 s1 advert #1=192.0.2.2:3544>198.51.100.1:1024/117\n3 0 2 deliver:1 n1 nat_closed\n4 4000 3 tick a rs_cone #2=198.51.100.1:1024>192.0.2.1:3544/61\n5 8000 3 tick a rs_cone #3=198.51.100.1:1024>192.0.2.1:3544/61\n6 12000 3 tick a rs_restricted #4=198.51.100.1:1024>192.0.2.1:3544/61\n7 12000 3 advance - done\n8 12000 4 deliver:4 s1 advert #5=192.0.2.1:3544>198.51.100.1:1024/117\n9 12000 5 deliver:5 a first_answer\n10 12000 6 tick a rs_secondary #6=198.51.100.1:1024>192.0.2.2:3544/61\n11 12000 6 advance - done\n12 12000 7 deliver:6 s1 advert #7=192.0.2.2:3544>198.51.100.1:1024/117\n13 12000 8 deliver:7 a qualified_restricted is 2001:0:c000:201:0:fbff:39cc:9bfe\n14 12000 9 host a queued #8=198.51.100.1:1024>198.51.100.2:1024/40 #9=198.51.100.1:1024>192.0.2.1:3544/40\n15 14000 10 tick a bubbles #10=198.51.100.1:1024>198.51.100.2:1024/40 #11=198.51.100.1:1024>192.0.2.1:3544/40\n16 16000 10 tick a bubbles #12=198.51.100.1:1024>198.51.100.2:1024/40 #13=198.51.100.1:1024>192.0.2.1:3544/40\n17 18000 10 tick a bubbles #14=198.51.100.1:1024>198.51.100.2:1024/40 #15=198.51.100.1:1024>192.0.2.1:3544/40\n18 20000 10 tick a give_up gone/1\n19 20000 10 advance - done\n20 20000 11 host a barred\n21 42000 12 tick a refresh #16=198.51.100.1:1024>192.0.2.1:3544/61\n22 72000 12 tick a refresh #17=198.51.100.1:1024>192.0.2.1:3544/61\n23 102000 12 tick a refresh #18=198.51.100.1:1024>192.0.2.1:3544/61\n24 132000 12 tick a refresh #19=198.51.100.1:1024>192.0.2.1:3544/61\n25 162000 12 tick a refresh #20=198.51.100.1:1024>192.0.2.1:3544/61\n26 192000 12 tick a refresh #21=198.51.100.1:1024>192.0.2.1:3544/61\n27 222000 12 tick a refresh #22=198.51.100.1:1024>192.0.2.1:3544/61\n28 252000 12 tick a refresh #23=198.51.100.1:1024>192.0.2.1:3544/61\n29 282000 12 tick a refresh #24=198.51.100.1:1024>192.0.2.1:3544/61\n30 311999 12 advance - done\n31 311999 13 host a barred\n32 312000 14 tick a refresh #25=198.51.100.1:1024>192.0.2.1:3544/61\n33 312000 14 advance - done\n34 312000 15 host a queued #26=198.51.100.1:1024>198.51.100.2:1024/40 #27=198.51.100.1:1024>192.0.2.1:3544/40\ntotal records 35 entries 28 delivered 6 handed 0 kept 0 dropped 4\n"
unfolding playing hex_groups_text hex digits
barred-report = refl
