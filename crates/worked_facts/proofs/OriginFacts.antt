-- Whence handed packets came and what addresses embed, in worked scenarios: the premise and the conclusion, computed.
use Rattle.worked_facts.proofs.Words.{ClientNode, Full, List, Scenario, [], cone-nat, cone-sends, drop, ep, false, fields_in, flat_lab, ip, ip6, lit<, lit≤, name1, name2, play, playing, port-nat, refl, some_words, true, ℕ, ◌∷◌}
use Rattle.nat_kinds.specs.declared.kind.NatKind.TheVariants as kind
use Rattle.events.specs.declared.event.Event.TheVariants as event
use Rattle.worked_facts.proofs.OriginViews.{GivesHeld, HandsTold, put_latest, handed_in, sent_latest}

-- a client, behind NAT 1, and another one behind NAT 2
abbrev pub a : ClientNode
a = record { name = name1 97; nat = 1; inside = ep (ip 10 0 0 2) 4000; server = 0; refresh = record { low_ms = 30000; high_ms = 30000 }; random = false; cone_try = true }

abbrev pub b : ClientNode
b = record { name = name1 98; nat = 2; inside = ep (ip 10 0 0 3) 4000; server = 0; refresh = record { low_ms = 30000; high_ms = 30000 }; random = false; cone_try = true }

-- behind a cone NAT: the address that the client gets embeds the NAT's, and a port that this holds for it
abbrev pub cone-nat-history : List Full
cone-nat-history = play some_words cone-nat 5 []

pub cone-nat-address : GivesHeld (flat_lab some_words cone-nat.topology) 2 a (ip6 (32 ∷ 1 ∷ 0 ∷ 0 ∷ 192 ∷ 0 ∷ 2 ∷ 1 ∷ 128 ∷ 0 ∷ 251 ∷ 255 ∷ 57 ∷ 204 ∷ 155 ∷ 254 ∷ [])) cone-nat-history
unfolding playing
cone-nat-address = (refl, record { node = refl; address = refl }, record { external = refl; port = (ep (ip 192 0 2 1) 3544, refl) })

-- the same behind a port restricted NAT
abbrev pub port-nat-history : List Full
port-nat-history = play some_words port-nat 15 []

pub port-nat-address : GivesHeld (flat_lab some_words port-nat.topology) 2 a (ip6 (32 ∷ 1 ∷ 0 ∷ 0 ∷ 192 ∷ 0 ∷ 2 ∷ 1 ∷ 0 ∷ 0 ∷ 251 ∷ 255 ∷ 57 ∷ 204 ∷ 155 ∷ 254 ∷ [])) port-nat-history
unfolding playing
port-nat-address = (refl, record { node = refl; address = refl }, record { external = refl; port = (ep (ip 192 0 2 1) 3544, refl) })

-- a packet with a Teredo source, to the client behind the cone NAT
abbrev pub strange-packet : List ℕ
strange-packet = (96 ∷ 0 ∷ 0 ∷ 0 ∷ 0 ∷ 1 ∷ 253 ∷ 64 ∷ 32 ∷ 1 ∷ 0 ∷ 0 ∷ 192 ∷ 0 ∷ 2 ∷ 1 ∷ 0 ∷ 0 ∷ 255 ∷ 246 ∷ 52 ∷ 255 ∷ 142 ∷ 250 ∷ 32 ∷ 1 ∷ 0 ∷ 0 ∷ 192 ∷ 0 ∷ 2 ∷ 1 ∷ 128 ∷ 0 ∷ 251 ∷ 255 ∷ 57 ∷ 204 ∷ 155 ∷ 254 ∷ 7 ∷ [])

-- a stranger sends it from the endpoint that its source embeds
abbrev pub stranger-nearby : Scenario
stranger-nearby = record {
  seed = 1;
  topology = record {
    servers = record {
      name = name2 115 49;
      primary = ip 192 0 2 1;
      secondary = ip 192 0 2 2;
    } ∷ [];
    nats = record { name = name2 110 49; kind = kind.Cone; external = ip 198 51 100 1; idle = 60000 } ∷ [];
    clients = record {
      name = name1 97;
      nat = 1;
      inside = ep (ip 10 0 0 2) 4000;
      server = 0;
      refresh = record { low_ms = 30000; high_ms = 30000 };
      random = false;
      cone_try = true;
    } ∷ [];
    relays = [];
    natives = [];
  };
  events = event.Advance 0 ∷ event.Next ∷ event.Next ∷ event.Stranger (ep (ip 203 0 113 5) 9) (ep (ip 198 51 100 1) 1024) strange-packet
      ∷ event.Deliver 2 ∷ [];
}

abbrev pub stranger-nearby-history : List Full
stranger-nearby-history = play some_words stranger-nearby 9 []

-- it is handed over, and a named event put it onto the wire there
pub stranger-nearby-packet : HandsTold (flat_lab some_words stranger-nearby.topology) 2 a 2 strange-packet stranger-nearby-history
unfolding playing
stranger-nearby-packet = record {
  honest = refl;
  hands = (record { node = refl; client = refl; packet = refl }, refl);
  origin = put_latest (flat_lab some_words stranger-nearby.topology) 2 (fields_in strange-packet).src strange-packet (drop 1 stranger-nearby-history) (lit≤ tt, lit< tt, refl);
}

-- the packet that the host of the one hands in, for the other
abbrev pub sent-packet : List ℕ
sent-packet = (96 ∷ 0 ∷ 0 ∷ 0 ∷ 0 ∷ 1 ∷ 253 ∷ 64 ∷ 32 ∷ 1 ∷ 0 ∷ 0 ∷ 192 ∷ 0 ∷ 2 ∷ 1 ∷ 128 ∷ 0 ∷ 251 ∷ 255 ∷ 57 ∷ 204 ∷ 155 ∷ 254 ∷ 32 ∷ 1 ∷ 0 ∷ 0 ∷ 192 ∷ 0 ∷ 2 ∷ 1 ∷ 0 ∷ 0 ∷ 251 ∷ 255 ∷ 57 ∷ 204 ∷ 155 ∷ 253 ∷ 1 ∷ [])

abbrev pub cone-sends-history : List Full
cone-sends-history = play some_words cone-sends 21 []

-- the other's host is handed it; and the one's host had handed it in, three records before it left from the endpoint that its
-- source embeds
pub cone-sends-packet : HandsTold (flat_lab some_words cone-sends.topology) 4 b 12 sent-packet cone-sends-history
unfolding playing
cone-sends-packet =
    let handed = handed_in (flat_lab some_words cone-sends.topology) 3 a (fields_in sent-packet).src sent-packet 3 (drop 1 cone-sends-history) (refl, refl, refl) in
    record {
      honest = refl;
      hands = (record { node = refl; client = refl; packet = refl }, refl);
      origin = sent_latest (flat_lab some_words cone-sends.topology) (record {
        number = 3;
        row = a;
        entry = 12;
        own = (fields_in sent-packet).src;
        dst = ep (ip 198 51 100 2) 1024;
        bytes = sent-packet;
      }) sent-packet (drop 1 cone-sends-history) (lit≤ tt, lit< tt, refl, refl, refl, refl) handed;
    }
