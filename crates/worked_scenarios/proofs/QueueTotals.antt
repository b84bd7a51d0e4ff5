-- Worked scenarios: the whole report of each, computed from the definitions.
use Rattle.worked_scenarios.proofs.Words.{Scenario, [], codes, digits, false, hex, hex_groups_text, refl, totals, true, ◌∷◌, ◌≡◌}
use Rattle.nat_kinds.specs.declared.kind.NatKind.TheVariants as kind
use Rattle.events.specs.declared.event.Event.TheVariants as event
use Rattle.events.specs.declared.target.Target.TheVariants as target
use Rattle.worked_scenarios.proofs.Scenes.{name1, name2, ip, ip6, ep, some_words, play}
use Rattle.worked_scenarios.proofs.Playing.{playing}

abbrev pub queue : Scenario
queue = record {
  seed = 1;
  topology = record {
    servers = record { name = name2 115 49; primary = ip 192 0 2 1; secondary = ip 192 0 2 2 }
        ∷ [];
    nats = record { name = name2 110 49; kind = kind.Port; external = ip 198 51 100 1; idle = 60000 } ∷ [];
    clients = record {
      name = name1 97;
      nat = 1;
      inside = ep (ip 10 0 0 2) 4000;
      server = 0;
      refresh = record { low_ms = 30000; high_ms = 30000 };
      random = false;
      cone_try = true;
    } ∷ [];
    relays = [];
    natives = [];
  };
  events = event.Advance 0 ∷ event.Next ∷ event.Next ∷ event.Advance 12000 ∷ event.Deliver 4 ∷ event.Deliver 5 ∷ event.Advance 0
      ∷ event.Deliver 6 ∷ event.Deliver 7 ∷ event.Host 2 (target.At
      (ip6 (32 ∷ 1 ∷ 0 ∷ 0 ∷ 192 ∷ 0 ∷ 2 ∷ 1 ∷ 0 ∷ 0 ∷ 251 ∷ 255 ∷ 57 ∷ 204 ∷ 155 ∷ 253 ∷ []))) (4 ∷ [])
      ∷ event.Host 2 (target.At (ip6 (32 ∷ 1 ∷ 0 ∷ 0 ∷ 192 ∷ 0 ∷ 2 ∷ 1 ∷ 0 ∷ 0 ∷ 251 ∷ 255 ∷ 57 ∷ 204 ∷ 155 ∷ 253 ∷ []))) (4 ∷ [])
      ∷ event.Host 2 (target.At (ip6 (32 ∷ 1 ∷ 0 ∷ 0 ∷ 192 ∷ 0 ∷ 2 ∷ 1 ∷ 0 ∷ 0 ∷ 251 ∷ 255 ∷ 57 ∷ 204 ∷ 155 ∷ 253 ∷ []))) (4 ∷ [])
      ∷ event.Host 2 (target.At (ip6 (32 ∷ 1 ∷ 0 ∷ 0 ∷ 192 ∷ 0 ∷ 2 ∷ 1 ∷ 0 ∷ 0 ∷ 251 ∷ 255 ∷ 57 ∷ 204 ∷ 155 ∷ 253 ∷ []))) (4 ∷ [])
      ∷ event.Host 2 (target.At (ip6 (32 ∷ 1 ∷ 0 ∷ 0 ∷ 192 ∷ 0 ∷ 2 ∷ 1 ∷ 0 ∷ 0 ∷ 251 ∷ 255 ∷ 57 ∷ 204 ∷ 155 ∷ 253 ∷ []))) (4 ∷ [])
      ∷ event.Host 2 (target.At (ip6 (32 ∷ 1 ∷ 0 ∷ 0 ∷ 192 ∷ 0 ∷ 2 ∷ 1 ∷ 0 ∷ 0 ∷ 251 ∷ 255 ∷ 57 ∷ 204 ∷ 155 ∷ 253 ∷ []))) (4 ∷ [])
      ∷ event.Host 2 (target.At (ip6 (32 ∷ 1 ∷ 0 ∷ 0 ∷ 192 ∷ 0 ∷ 2 ∷ 1 ∷ 0 ∷ 0 ∷ 251 ∷ 255 ∷ 57 ∷ 204 ∷ 155 ∷ 253 ∷ []))) (4 ∷ [])
      ∷ event.Host 2 (target.At (ip6 (32 ∷ 1 ∷ 0 ∷ 0 ∷ 192 ∷ 0 ∷ 2 ∷ 1 ∷ 0 ∷ 0 ∷ 251 ∷ 255 ∷ 57 ∷ 204 ∷ 155 ∷ 253 ∷ []))) (4 ∷ [])
      ∷ event.Host 2 (target.At (ip6 (32 ∷ 1 ∷ 0 ∷ 0 ∷ 192 ∷ 0 ∷ 2 ∷ 1 ∷ 0 ∷ 0 ∷ 251 ∷ 255 ∷ 57 ∷ 204 ∷ 155 ∷ 253 ∷ []))) (4 ∷ []) ∷ [];
}

pub queue-totals : totals (play some_words queue 23 []) ≡ codes "total records 23 entries 10 delivered 6 handed 0 kept 0 dropped 2\n"
unfolding playing hex_groups_text hex digits
queue-totals = refl
