-- The first packet of a worked scenario arrives, whatever the order; and for each premise of that but those on room a history
-- without it, in which the packet doesn't arrive. Where it isn't a loss, every entry is delivered.
use Rattle.worked_facts.proofs.Words.{Event, Full, GetsThrough, HasArrived, Ip6, List, None, Scenario, Some, [], drop, ep, false, ip, ip6, meeting, name1, play, playing, refl, slice_get, some_words, take, true, ℕ, ◌∷◌, ◌≡◌}
use Rattle.teredo_node.specs.declared.fate.Fate.TheVariants as fate
use Rattle.events.specs.declared.event.Event.TheVariants as event
use Rattle.events.specs.declared.target.Target.TheVariants as target
use Rattle.worked_facts.proofs.FirstPacketViews.{carriage, Two, not_carried, not_arrived}

-- THE CLIENTS

abbrev pub a_own : Ip6
a_own = ip6 (32 ∷ 1 ∷ 0 ∷ 0 ∷ 192 ∷ 0 ∷ 2 ∷ 1 ∷ 0 ∷ 0 ∷ 251 ∷ 255 ∷ 57 ∷ 204 ∷ 155 ∷ 254 ∷ [])

abbrev pub b_own : Ip6
b_own = ip6 (32 ∷ 1 ∷ 0 ∷ 0 ∷ 192 ∷ 0 ∷ 2 ∷ 1 ∷ 0 ∷ 0 ∷ 251 ∷ 255 ∷ 57 ∷ 204 ∷ 155 ∷ 253 ∷ [])

-- that of b behind the NAT of a, which gave the next port
abbrev pub b_own_too : Ip6
b_own_too = ip6 (32 ∷ 1 ∷ 0 ∷ 0 ∷ 192 ∷ 0 ∷ 2 ∷ 1 ∷ 0 ∷ 0 ∷ 251 ∷ 254 ∷ 57 ∷ 204 ∷ 155 ∷ 254 ∷ [])

-- both find out behind which NAT they are, and then this
abbrev pub after_meeting : List Event → Scenario
after_meeting events = record meeting {
  events = event.Advance 12000 ∷ event.Deliver 6 ∷ event.Deliver 7 ∷ event.Deliver 8 ∷ event.Deliver 9
      ∷ event.Advance 0 ∷ event.Deliver 10 ∷ event.Deliver 11 ∷ event.Deliver 12 ∷ event.Deliver 13 ∷ events;
}

-- the host of a hands in a packet for b
abbrev pub to_b : Event
to_b = event.Host 3 (target.Node 4) (104 ∷ 101 ∷ 108 ∷ 108 ∷ 111 ∷ [])

-- IT ARRIVES

-- the direct bubble comes third: b trusts a by it, so the packet comes by rule 1
abbrev pub late-bubble : Scenario
late-bubble = after_meeting (to_b ∷ event.Deliver 15 ∷ event.Deliver 16 ∷ event.Deliver 14 ∷ event.Deliver 17 ∷ event.Deliver 18 ∷ [])

pub late-bubble-view : carriage 3 4 a_own b_own 5 (play some_words late-bubble 26 [])
    ≡ Some (record {
      delivered = Some 18 ∷ Some 17 ∷ Some 14 ∷ Some 16 ∷ Some 15 ∷ [];
      left = [];
      faults = false;
      fates = fate.Rule1 ∷ fate.Rule3Bubble ∷ fate.Rule3Bubble ∷ fate.Indirect ∷ fate.ForwardOrigin ∷ [];
      handed = Some 45 ∷ None ∷ None ∷ None ∷ None ∷ [];
      listed = false;
      listed_too = false;
    })
unfolding playing
late-bubble-view = refl

-- WITHOUT A PREMISE

-- a sends to b
abbrev a_to_b : Two
a_to_b = record { sender = 3; receiver = 4; own = a_own; other = b_own }

-- a lists b already: it has just tried, so a second packet only waits, and brings nothing about
abbrev pub listed-by-sender : Scenario
listed-by-sender = after_meeting (to_b ∷ to_b ∷ [])

pub listed-by-sender-view : carriage 3 4 a_own b_own 0 (play some_words listed-by-sender 22 []) ≡ Some (record { delivered = []; left = []; faults = false; fates = []; handed = []; listed = true; listed_too = false })
unfolding playing
listed-by-sender-view = refl

pub listed-by-sender-fails : (r : Full) → slice_get (play some_words listed-by-sender 22 []) 0 ≡ Some r → (x : List ℕ)
    → GetsThrough (drop 1 (play some_words listed-by-sender 22 [])) r 4 a_own b_own x (take 0 (play some_words listed-by-sender 22 [])) → ⊥
listed-by-sender-fails = not_carried a_to_b 0 (play some_words listed-by-sender 22 []) _ listed-by-sender-view refl refl

-- b lists a already: its own try, of which one bubble was lost, bars it from answering
abbrev pub listed-by-receiver : Scenario
listed-by-receiver = after_meeting (event.Fault 0 ∷ event.Host 4 (target.Node 3) (119 ∷ []) ∷ to_b ∷ event.Deliver 15 ∷ event.Deliver 16 ∷ event.Deliver 17 ∷ [])

pub listed-by-receiver-view : carriage 3 4 a_own b_own 3 (play some_words listed-by-receiver 26 [])
    ≡ Some (record {
      delivered = Some 17 ∷ Some 16 ∷ Some 15 ∷ [];
      left = [];
      faults = false;
      fates = fate.Barred ∷ fate.ForwardOrigin ∷ fate.NatClosed ∷ [];
      handed = None ∷ None ∷ None ∷ [];
      listed = false;
      listed_too = true;
    })
unfolding playing
listed-by-receiver-view = refl

pub listed-by-receiver-fails : (r : Full) → slice_get (play some_words listed-by-receiver 26 []) 3 ≡ Some r → (x : List ℕ)
    → GetsThrough (drop 4 (play some_words listed-by-receiver 26 [])) r 4 a_own b_own x (take 3 (play some_words listed-by-receiver 26 [])) → ⊥
listed-by-receiver-fails = not_carried a_to_b 3 (play some_words listed-by-receiver 26 []) _ listed-by-receiver-view refl refl

-- the bubble through the server fails
abbrev pub failed-bubble : Scenario
failed-bubble = after_meeting (event.Fault 1 ∷ to_b ∷ event.Deliver 14 ∷ [])

pub failed-bubble-view : carriage 3 4 a_own b_own 1 (play some_words failed-bubble 23 [])
    ≡ Some (record { delivered = Some 14 ∷ []; left = []; faults = true; fates = fate.NatClosed ∷ []; handed = None ∷ []; listed = false; listed_too = false })
unfolding playing
failed-bubble-view = refl

pub failed-bubble-fails : (r : Full) → slice_get (play some_words failed-bubble 23 []) 1 ≡ Some r → (x : List ℕ)
    → GetsThrough (drop 2 (play some_words failed-bubble 23 [])) r 4 a_own b_own x (take 1 (play some_words failed-bubble 23 [])) → ⊥
failed-bubble-fails = not_carried a_to_b 1 (play some_words failed-bubble 23 []) _ failed-bubble-view refl refl

-- the bubble through the server is lost: the schedule isn't complete
abbrev pub lost-bubble : Scenario
lost-bubble = after_meeting (to_b ∷ event.Deliver 14 ∷ [])

pub lost-bubble-view : carriage 3 4 a_own b_own 1 (play some_words lost-bubble 22 [])
    ≡ Some (record {
      delivered = Some 14 ∷ [];
      left = 15 ∷ [];
      faults = false;
      fates = fate.NatClosed ∷ [];
      handed = None ∷ [];
      listed = false;
      listed_too = false;
    })
unfolding playing
lost-bubble-view = refl

pub lost-bubble-fails : (r : Full) → slice_get (play some_words lost-bubble 22 []) 1 ≡ Some r → (x : List ℕ) → HasArrived 4 x (take 1 (play some_words lost-bubble 22 [])) → ⊥
lost-bubble-fails = not_arrived a_to_b 1 (play some_words lost-bubble 22 []) _ lost-bubble-view refl

-- the answer to it is lost, the last but one of five
abbrev pub lost-answer : Scenario
lost-answer = after_meeting (to_b ∷ event.Deliver 14 ∷ event.Deliver 15 ∷ event.Deliver 16 ∷ [])

pub lost-answer-view : carriage 3 4 a_own b_own 3 (play some_words lost-answer 24 [])
    ≡ Some (record {
      delivered = Some 16 ∷ Some 15 ∷ Some 14 ∷ [];
      left = 17 ∷ [];
      faults = false;
      fates = fate.Indirect ∷ fate.ForwardOrigin ∷ fate.NatClosed ∷ [];
      handed = None ∷ None ∷ None ∷ [];
      listed = false;
      listed_too = false;
    })
unfolding playing
lost-answer-view = refl

pub lost-answer-fails : (r : Full) → slice_get (play some_words lost-answer 24 []) 3 ≡ Some r → (x : List ℕ) → HasArrived 4 x (take 3 (play some_words lost-answer 24 [])) → ⊥
lost-answer-fails = not_arrived a_to_b 3 (play some_words lost-answer 24 []) _ lost-answer-view refl

-- 8 seconds pass before the deliveries: a tries three times more, and gives up. What comes back finds no packet
abbrev pub waited : Scenario
waited = after_meeting (to_b ∷ event.Advance 8000 ∷ event.Deliver 14 ∷ event.Deliver 15 ∷ event.Deliver 16 ∷ event.Deliver 17
    ∷ event.Deliver 18 ∷ event.Deliver 19 ∷ event.Deliver 20 ∷ event.Deliver 21 ∷ event.Deliver 22 ∷ event.Deliver 23 ∷ event.Deliver 24
    ∷ event.Deliver 25 ∷ event.Deliver 26 ∷ [])

pub waited-view : carriage 3 4 a_own b_own 18 (play some_words waited 39 [])
    ≡ Some (record {
      delivered = Some 26 ∷ Some 25 ∷ Some 24 ∷ Some 23 ∷ Some 22 ∷ Some 21 ∷ Some 20 ∷ Some 19 ∷ Some 18 ∷ Some 17 ∷ Some 16
          ∷ Some 15 ∷ Some 14 ∷ None ∷ None ∷ None ∷ None ∷ None ∷ [];
      left = [];
      faults = false;
      fates = fate.Rule3Bubble ∷ fate.Barred ∷ fate.Barred ∷ fate.Barred ∷ fate.Indirect ∷ fate.ForwardOrigin ∷ fate.NatClosed
          ∷ fate.ForwardOrigin ∷ fate.NatClosed ∷ fate.ForwardOrigin ∷ fate.NatClosed ∷ fate.ForwardOrigin ∷ fate.NatClosed ∷ fate.Done
          ∷ fate.GiveUp ∷ fate.Bubbles ∷ fate.Bubbles ∷ fate.Bubbles ∷ [];
      handed = None ∷ None ∷ None ∷ None ∷ None ∷ None ∷ None ∷ None ∷ None ∷ None ∷ None ∷ None ∷ None ∷ None ∷ None ∷ None ∷ None ∷ None
          ∷ [];
      listed = false;
      listed_too = false;
    })
unfolding playing
waited-view = refl

pub waited-fails : (r : Full) → slice_get (play some_words waited 39 []) 18 ≡ Some r → (x : List ℕ) → GetsThrough (drop 19 (play some_words waited 39 [])) r 4 a_own b_own x (take 18 (play some_words waited 39 [])) → ⊥
waited-fails = not_carried a_to_b 18 (play some_words waited 39 []) _ waited-view refl refl

-- both are behind one NAT, which sends nothing back to itself
abbrev pub one-nat : Scenario
one-nat = record (after_meeting (to_b ∷ event.Deliver 14 ∷ event.Deliver 15 ∷ [])) {
  topology = record meeting.topology {
    clients = record {
      name = name1 97;
      nat = 1;
      inside = ep (ip 10 0 0 2) 4000;
      server = 0;
      refresh = record { low_ms = 30000; high_ms = 30000 };
      random = false;
      cone_try = true;
    }
        ∷ record {
          name = name1 98;
          nat = 1;
          inside = ep (ip 10 0 0 3) 4000;
          server = 0;
          refresh = record { low_ms = 30000; high_ms = 30000 };
          random = false;
          cone_try = true;
        } ∷ [];
  };
}

pub one-nat-view : carriage 3 4 a_own b_own_too 2 (play some_words one-nat 23 [])
    ≡ Some (record {
      delivered = Some 15 ∷ Some 14 ∷ [];
      left = [];
      faults = false;
      fates = fate.Indirect ∷ fate.ForwardOrigin ∷ [];
      handed = None ∷ None ∷ [];
      listed = false;
      listed_too = false;
    })
unfolding playing
one-nat-view = refl

pub one-nat-fails : (r : Full) → slice_get (play some_words one-nat 23 []) 2 ≡ Some r → (x : List ℕ) → GetsThrough (drop 3 (play some_words one-nat 23 [])) r 4 a_own b_own_too x (take 2 (play some_words one-nat 23 [])) → ⊥
one-nat-fails = not_carried (record a_to_b { other = b_own_too }) 2 (play some_words one-nat 23 []) _ one-nat-view refl refl
