-- What can follow in worked histories, and two statements about it that are too strong.
use Rattle.worked_facts.proofs.Words.{Scenario, [], ap, arith, burden_most, client_mentions, cone-nat, datagram_weight, ep, ip, listed, name2, play, playing, refl, replicate, settled, some_words, take, touched, ◌∷◌, ◌≡◌, ◌≤◌}
use Rattle.events.specs.declared.event.Event.TheVariants as event
use Rattle.worked_facts.proofs.StormViews.{Storm, storm, deliveries, too_many}

-- FEWER FOLLOW THAN MAY

-- two clients have qualified, and the host of one handed in a packet for the other
pub settled-storm : storm settled.topology (play some_words settled 21 []) ≡ record { undelivered = 8; waiting = 1; weights = 24; most = 108 }
unfolding playing datagram_weight
settled-storm = refl

-- `settle` delivers seventeen times, and nothing is left
pub settled-deliveries : deliveries (take 17 (play some_words settled 38 [])) ≡ 17
unfolding playing datagram_weight
settled-deliveries = refl

pub settled-calm : storm settled.topology (play some_words settled 38 []) ≡ record { undelivered = 0; waiting = 0; weights = 0; most = 0 }
unfolding playing datagram_weight
settled-calm = refl

-- WITH A TICK BETWEEN

-- nothing may follow where nothing happened yet; but a tick asks the server, and two deliveries follow
pub asked-deliveries : deliveries (play some_words cone-nat 4 []) ≡ 2
unfolding playing datagram_weight
asked-deliveries = refl

pub ticks_between : (deliveries (play some_words cone-nat 4 []) ≤ burden_most cone-nat.topology []) → ⊥
unfolding listed touched client_mentions
ticks_between = too_many cone-nat.topology [] (play some_words cone-nat 4 [])
    (record { most = 0; many = 2; bound = refl; count = asked-deliveries; more = omega arith })

-- WITH AN ENTRY DELIVERED AGAIN

-- a stranger's solicitation, delivered thirteen times: the server answers each time
abbrev pub repeated : Scenario
repeated = record {
  seed = 1;
  topology = record {
    servers = record { name = name2 115 49; primary = ip 192 0 2 1; secondary = ip 192 0 2 2 }
        ∷ [];
    nats = [];
    clients = [];
    relays = [];
    natives = [];
  };
  events = event.Stranger (ep (ip 198 51 100 7) 40000)
      (ep (ip 192 0 2 1) 3544) (0 ∷ 1 ∷ 0 ∷ 0 ∷ 1 ∷ 2 ∷ 3 ∷ 4 ∷ 5 ∷ 6 ∷ 7 ∷ 8 ∷ 0 ∷ 96 ∷ 0 ∷ 0 ∷ 0 ∷ 0 ∷ 8 ∷ 58 ∷ 255 ∷ 254 ∷ 128 ∷ 0 ∷ 0 ∷ 0
      ∷ 0 ∷ 0 ∷ 0 ∷ 0 ∷ 0 ∷ 99 ∷ 191 ∷ 57 ∷ 204 ∷ 155 ∷ 248 ∷ 255 ∷ 2 ∷ 0 ∷ 0 ∷ 0 ∷ 0 ∷ 0 ∷ 0 ∷ 0 ∷ 0 ∷ 0 ∷ 0 ∷ 0 ∷ 0 ∷ 0 ∷ 2 ∷ 133 ∷ 0 ∷ 67
      ∷ 179 ∷ 0 ∷ 0 ∷ 0 ∷ 0 ∷ []) ∷ replicate 13 (event.Deliver 0);
}

pub repeated-storm : storm repeated.topology (play some_words repeated 1 []) ≡ record { undelivered = 1; waiting = 0; weights = 2; most = 12 }
unfolding playing datagram_weight
repeated-storm = refl

pub repeated-most : burden_most repeated.topology (play some_words repeated 1 []) ≡ 12
repeated-most = ap (λ (v : Storm). v.most) repeated-storm

pub repeated-deliveries : deliveries (take 13 (play some_words repeated 14 [])) ≡ 13
unfolding playing datagram_weight
repeated-deliveries = refl

pub delivered_again : (deliveries (take 13 (play some_words repeated 14 [])) ≤ burden_most repeated.topology (play some_words repeated 1 [])) → ⊥
delivered_again = too_many repeated.topology (play some_words repeated 1 []) (take 13 (play some_words repeated 14 []))
    (record { most = 12; many = 13; bound = repeated-most; count = repeated-deliveries; more = omega arith })
