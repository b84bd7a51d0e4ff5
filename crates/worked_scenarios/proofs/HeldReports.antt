-- Packets that a client holds until a test is answered: whole reports, computed from the definitions.
use Rattle.worked_scenarios.proofs.Words.{Event, Full, List, Scenario, TopologyState, [], codes, digits, false, hex, hex_groups_text, map, refl, report, true, ◌∷◌, ◌≡◌}
use Rattle.teredo_node.specs.declared.fate.Fate.TheVariants as fate
use Rattle.nat_kinds.specs.declared.kind.NatKind.TheVariants as kind
use Rattle.events.specs.declared.event.Event.TheVariants as event
use Rattle.events.specs.declared.target.Target.TheVariants as target
use Rattle.worked_scenarios.proofs.Scenes.{name1, name2, ip, ip6, ep, some_words, play}
use Rattle.worked_scenarios.proofs.Playing.{playing}

abbrev held_nodes : TopologyState
held_nodes = record {
  servers = record { name = name2 115 49; primary = ip 192 0 2 1; secondary = ip 192 0 2 2 } ∷ [];
  nats = record { name = name2 110 49; kind = kind.Cone; external = ip 198 51 100 1; idle = 60000 } ∷ [];
  clients = record {
    name = name1 97;
    nat = 1;
    inside = ep (ip 10 0 0 2) 4000;
    server = 0;
    refresh = record { low_ms = 30000; high_ms = 30000 };
    random = false;
    cone_try = true;
  } ∷ [];
  relays = record {
    name = name2 114 49;
    at = ep (ip 203 0 113 9) 3545;
    six = ip6 (32 ∷ 1 ∷ 13 ∷ 184 ∷ 0 ∷ 0 ∷ 0 ∷ 0 ∷ 0 ∷ 0 ∷ 0 ∷ 0 ∷ 0 ∷ 0 ∷ 0 ∷ 9 ∷ []);
  } ∷ [];
  natives = record { name = name2 104 49; six = ip6 (32 ∷ 1 ∷ 13 ∷ 184 ∷ 0 ∷ 0 ∷ 0 ∷ 0 ∷ 0 ∷ 0 ∷ 0 ∷ 0 ∷ 0 ∷ 0 ∷ 0 ∷ 1 ∷ []); relay = 3 } ∷ [];
}

-- the client qualifies, a packet of the native comes to it, and a copy of that from elsewhere
abbrev held_begin : List Event → List Event
held_begin more = event.Advance 0 ∷ event.Next ∷ event.Next ∷ event.Host 4 (target.Node 2) (3 ∷ []) ∷ event.Deliver 2 ∷ event.Copy 3 (ep (ip 203 0 113 5) 9) (ep (ip 198 51 100 1) 1024) ∷ event.Deliver 3 ∷ more

abbrev pub held_back : Scenario
held_back = record { seed = 1; topology = held_nodes; events = held_begin (event.Deliver 4 ∷ event.Deliver 5 ∷ event.Deliver 6 ∷ event.Deliver 7 ∷ event.Deliver 8 ∷ []) }

pub held_back-report : report held_back.topology (play some_words held_back 14 [])
    ≡ codes
    "0 0 0 tick a rs_cone #0=198.51.100.1:1024>192.0.2.1:3544/61\n1 0 0 advance - done\n2 0 1 deliver:0 s1 advert #1=192.0.2.2:3544>198.51.100.1:1024/117\n3 0 2 deliver:1 a qualified_cone is 2001:0:c000:201:8000:fbff:39cc:9bfe\n4 0 3 host h1 sent_six #2=six:r1/41\n5 0 4 deliver:2 r1 sent_cone #3=203.0.113.9:3545>198.51.100.1:1024/41\n6 0 5 copy:3 - put #4=203.0.113.5:9>198.51.100.1:1024/41\n7 0 6 deliver:3 a held_test #5=198.51.100.1:1024>192.0.2.1:3544/56\n8 0 7 deliver:4 a held\n9 0 8 deliver:5 s1 six #6=six/56\n10 0 9 deliver:6 h1 echoed #7=six:r1/56\n11 0 10 deliver:7 r1 sent #8=203.0.113.9:3545>198.51.100.1:1024/56\n12 0 11 deliver:8 a rule2 late/41 gone/1\ntotal records 13 entries 9 delivered 9 handed 1 kept 0 dropped 0\n"
unfolding playing hex_groups_text hex digits
held_back-report = refl

-- a fifth packet isn't held, nor when a further test goes out
abbrev pub held_more : Scenario
held_more = record { seed = 1; topology = held_nodes; events = held_begin (event.Deliver 4 ∷ event.Deliver 4 ∷ event.Deliver 4 ∷ event.Deliver 4 ∷ event.Advance 2000 ∷ event.Deliver 4 ∷ []) }

pub held_more-fates : map (λ (r : Full). r.fate) (play some_words held_more 15 []) ≡ fate.SuspiciousTest ∷ fate.Done ∷ fate.Suspicious
    ∷ fate.Held ∷ fate.Held ∷ fate.Held ∷ fate.HeldTest ∷ fate.Put ∷ fate.SentCone ∷ fate.SentSix ∷ fate.QualifiedCone ∷ fate.Advert
    ∷ fate.Done ∷ fate.RsCone ∷ []
unfolding playing hex_groups_text hex digits
held_more-fates = refl
