-- Histories in which somebody says that he is a server, and a client gets an address that doesn't lead to it.
use Rattle.worked_facts.proofs.Words.{Full, List, Option, Scenario, [], ap, ep, false, false≢true, flat_lab, ip, ip6, name1, name2, play, playing, refl, some_words, sym, true, unwrap_or, ℕ, ◌==◌, ◌∷◌}
use Rattle.nat_kinds.specs.declared.kind.NatKind.TheVariants as kind
use Rattle.events.specs.declared.event.Event.TheVariants as event
use Rattle.worked_facts.proofs.OriginViews.{GivesUnheld}
use Rattle.worked_facts.proofs.OriginFacts.{a}

-- a stranger knows the nonce, and answers in the server's name before it: with a port that the NAT holds for nobody
abbrev pub spoofed-answer : Scenario
spoofed-answer = record {
  seed = 1;
  topology = record {
    servers = record {
      name = name2 115 49;
      primary = ip 192 0 2 1;
      secondary = ip 192 0 2 2;
    } ∷ [];
    nats = record { name = name2 110 49; kind = kind.Cone; external = ip 198 51 100 1; idle = 60000 } ∷ [];
    clients = a ∷ [];
    relays = [];
    natives = [];
  };
  events = event.Advance 0
      ∷ event.Stranger (ep (ip 192 0 2 2) 3544) (ep (ip 198 51 100 1) 1024) (0 ∷ 1 ∷ 0 ∷ 0 ∷ 0 ∷ 0 ∷ 7 ∷ 208 ∷ 0 ∷ 0 ∷ 7 ∷ 209 ∷ 0 ∷ 0 ∷ 0
      ∷ 239 ∷ 109 ∷ 57 ∷ 204 ∷ 155 ∷ 254 ∷ 96 ∷ 0 ∷ 0 ∷ 0 ∷ 0 ∷ 56 ∷ 58 ∷ 255 ∷ 254 ∷ 128 ∷ 0 ∷ 0 ∷ 0 ∷ 0 ∷ 0 ∷ 0 ∷ 128 ∷ 0 ∷ 242 ∷ 39 ∷ 63
      ∷ 255 ∷ 253 ∷ 254 ∷ 254 ∷ 128 ∷ 0 ∷ 0 ∷ 0 ∷ 0 ∷ 0 ∷ 0 ∷ 128 ∷ 0 ∷ 240 ∷ 95 ∷ 245 ∷ 255 ∷ 255 ∷ 253 ∷ 134 ∷ 0 ∷ 54 ∷ 190 ∷ 0 ∷ 0 ∷ 0 ∷ 0
      ∷ 0 ∷ 0 ∷ 0 ∷ 0 ∷ 0 ∷ 0 ∷ 0 ∷ 0 ∷ 3 ∷ 4 ∷ 64 ∷ 64 ∷ 255 ∷ 255 ∷ 255 ∷ 255 ∷ 255 ∷ 255 ∷ 255 ∷ 255 ∷ 0 ∷ 0 ∷ 0 ∷ 0 ∷ 32 ∷ 1 ∷ 0 ∷ 0 ∷ 192
      ∷ 0 ∷ 2 ∷ 1 ∷ 0 ∷ 0 ∷ 0 ∷ 0 ∷ 0 ∷ 0 ∷ 0 ∷ 0 ∷ 5 ∷ 1 ∷ 0 ∷ 0 ∷ 0 ∷ 0 ∷ 5 ∷ 0 ∷ []) ∷ event.Deliver 1 ∷ [];
}

abbrev pub spoofed-answer-history : List Full
spoofed-answer-history = play some_words spoofed-answer 5 []

-- the client takes it: its address embeds a port that leads to nobody
pub spoofed-answer-address : GivesUnheld (flat_lab some_words spoofed-answer.topology) 2 a (ip6 (32 ∷ 1 ∷ 0 ∷ 0 ∷ 192 ∷ 0 ∷ 2 ∷ 1 ∷ 128 ∷ 0 ∷ 239 ∷ 109 ∷ 57 ∷ 204 ∷ 155 ∷ 254 ∷ [])) spoofed-answer-history
unfolding playing
spoofed-answer-address =
    (refl, record { node = refl; address = refl }, λ held. let (dst, port) = held.port in false≢true (sym (ap (λ (o : Option ℕ). unwrap_or o 0 == 1024) port)))

-- two clients behind a NAT that soon forgets: one asks from port 1025, and later from port 1024. There the answer to its first
-- question is repeated, by a copy in the server's name
abbrev pub repeated-answer : Scenario
repeated-answer = record {
  seed = 1;
  topology = record {
    servers = record {
      name = name2 115 49;
      primary = ip 192 0 2 1;
      secondary = ip 192 0 2 2;
    } ∷ [];
    nats = record { name = name2 110 49; kind = kind.Cone; external = ip 198 51 100 1; idle = 1000 } ∷ [];
    clients = record {
      name = name1 98;
      nat = 1;
      inside = ep (ip 10 0 0 3) 4000;
      server = 0;
      refresh = record { low_ms = 30000; high_ms = 30000 };
      random = false;
      cone_try = true;
    } ∷ a ∷ [];
    relays = [];
    natives = [];
  };
  events = event.Advance 0 ∷ event.Deliver 0 ∷ event.Deliver 1 ∷ event.Deliver 2 ∷ event.Advance 4000
      ∷ event.Copy 3 (ep (ip 192 0 2 2) 3544) (ep (ip 198 51 100 1) 1024) ∷ event.Deliver 5 ∷ [];
}

abbrev pub repeated-answer-history : List Full
repeated-answer-history = play some_words repeated-answer 12 []

-- it takes that too: its address embeds the port that it had at first, which the NAT no longer holds
pub repeated-answer-address : GivesUnheld (flat_lab some_words repeated-answer.topology) 3 a (ip6 (32 ∷ 1 ∷ 0 ∷ 0 ∷ 192 ∷ 0 ∷ 2 ∷ 1 ∷ 128 ∷ 0 ∷ 251 ∷ 254 ∷ 57 ∷ 204 ∷ 155 ∷ 254 ∷ [])) repeated-answer-history
unfolding playing
repeated-answer-address =
    (refl, record { node = refl; address = refl }, λ held. let (dst, port) = held.port in false≢true (sym (ap (λ (o : Option ℕ). unwrap_or o 0 == 1024) port)))
