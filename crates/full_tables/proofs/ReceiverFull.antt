-- All that a first packet of b for a draws is delivered, and a, which lists 256 others, hears nothing of it.
use Rattle.full_tables.proofs.Words.{AreFresh, Entry, Follows, Full, FullReceiverFails, GoesBetween, HasArrived, IsActOf, IsComplete, IsUnheard, Item, List, None, Option, PEERS_MAX, Some, [], acts, ap, arith, arrived, client, client_in, delivered, delivers_item, delivers_to, entry_of, false, false≢true, fields_in, fields_of, filter_map, full_receiver_hears_nothing, inl, inr, is_bubble, is_fault, is_packet, is_some, is_teredo, item_in, items_of, leb-true, length, list_any, nat_tests, now, numbered, packet_at, packet_bytes, place, refl, sym, true, unwrap_or, wire, ℕ, ◌++◌, ◌<◌, ◌==◌, ◌||◌, ◌∙◌, ◌∷◌, ◌≡◌, ◌≢◌, ◌≤◌}
use Rattle.events.specs.declared.event.Event.TheVariants as event
use Rattle.history.specs.declared.act.Act.TheVariants as act
use Rattle.full_tables.proofs.Filler.{IsFilled}
use Rattle.full_tables.proofs.TwoClients.{a, b, draws, topology, lab, a_own, b_own}
use Rattle.full_tables.proofs.TwoClientsRules.{keeps_rules}
use Rattle.full_tables.proofs.BothSettled.{both_settled, to_a, a_outside, at_server, with_origin, computed}
use Rattle.full_tables.proofs.ManyListed.{fills_a, a_is_settled, b_is_settled, a_lists_many, b_is_unlisted, a_has_no_room, a_is_unlisted, b_has_room}
use Rattle.full_tables.proofs.ListEnds.{nothing_more}
use Rattle.full_tables.proofs.TwoBubbles.{r, e, input_is, follows, eight, made_is, q1, follows_1}
use Rattle.full_tables.proofs.ThroughServer.{q2, follows_2, made_on, sent_bubble, after_server, eleven, third_there, route_to_a}

goes_to_a : GoesBetween b_own a_own to_a
unfolding packet_bytes packet_at fields_of is_packet fields_in is_bubble
goes_to_a = record { packet = refl; short = leb-true _ _ refl; no_bubble = refl; source = refl; destination = refl }

b_is_teredo : is_teredo b_own ≡ true
unfolding is_teredo
b_is_teredo = refl

nats_differ : b.nat ≢ a.nat
nats_differ = λ same. omega (arith, same)

module _ (H : List Full) (filled : IsFilled fills_a both_settled H PEERS_MAX) where
  -- THE LAST DELIVERY

  abbrev handing : Full
  handing = r H filled

  abbrev before : List Full
  before = after_server H filled

  abbrev q3 : Full
  q3 = acts lab before (numbered (place before) (event.Deliver 10)) (act.Deliver 10) (Some 10) (now before) 3 a_outside (arrived at_server with_origin)
      (client a)

  follows_3 : Follows lab before q3
  follows_3 = record {
    goes_on = λ more. absurd (false≢true more);
    event = leb-true _ _ refl;
    is = sym (
        ap (delivers_item lab before (numbered (place before) (event.Deliver 10)) 10) (third_there H filled)
        ∙ ap (delivers_to lab before (numbered (place before) (event.Deliver 10)) 10 sent_bubble) (route_to_a H filled)
        );
  }

  -- a HEARS NOTHING

  abbrev done : Entry
  done = entry_of lab before (now before) 3 a_outside (arrived at_server with_origin) (client a)

  came : done.input ≡ arrived at_server with_origin
  unfolding client_in
  came = refl

  does : IsActOf lab before q3 3 (client a) done
  does = record {
    there = refl;
    node = refl;
    still = refl;
    lasting = refl;
    dst = a_outside;
    input = arrived at_server with_origin;
    is_given = delivered 10 sent_bubble refl (third_there H filled) (route_to_a H filled) refl refl refl;
    step = refl;
    entry = refl;
    fate = refl;
    later = refl;
    address = refl;
    handed = refl;
    late = refl;
    made = refl;
    passed = refl;
  }

  unheard : IsUnheard lab before q3 3 a b_own
  unheard = record {
    entry = done;
    act = does;
    from = at_server;
    bytes = with_origin;
    datagram = came;
    source = computed.sent_on.source;
    teredo = b_is_teredo;
    full = a_has_no_room H filled;
  }

  -- THE SCHEDULE

  abbrev later : List Full
  later = q3 ∷ q2 H filled ∷ q1 H filled ∷ []

  nothing : (q3.made ≡ []) × (q3.handed ≡ None)
  nothing = full_receiver_hears_nothing lab before q3 3 a b_own unheard

  from_eight : (k first : ℕ) → first ≡ 8 → 8 ≤ k → first ≤ k
  from_eight k first is low = omega (arith, is, low)

  fresh : AreFresh handing later
  fresh = (
    record {
      number = 10;
      delivered = refl;
      new = from_eight 10 (length (wire H)) (eight H filled) (omega arith);
      once = refl;
      sound = ap (list_any is_fault) nothing.0;
    },
    (
      record {
        number = 9;
        delivered = refl;
        new = from_eight 9 (length (wire H)) (eight H filled) (omega arith);
        once = refl;
        sound = ap (list_any is_fault) (made_on H filled);
      },
      (
        record { number = 8; delivered = refl; new = from_eight 8 (length (wire H)) (eight H filled) (omega arith); once = refl; sound = refl },
        ap (list_any is_fault) (made_is H filled),
      ),
    ),
  )

  -- all is delivered
  complete : IsComplete H handing later
  complete k low high =
      let items : items_of q3 ≡ [] = ap (filter_map item_in) nothing.0 in
      let most : length (wire (q3 ∷ before)) ≡ 11 =
      ap (λ (xs : List Item). length (wire before ++ xs)) items ∙ ap (λ (xs : List Item). length xs) (nothing_more (wire before)) ∙ eleven H filled in
      by k (length (wire H)) (length (wire (q3 ∷ before))) (eight H filled) low most high where
        by : (i first all : ℕ) → first ≡ 8 → first ≤ i → all ≡ 11 → i < all → ((10 == i) || ((9 == i) || ((8 == i) || false))) ≡ true
        by i first all is low most high = grind (arith, nat_tests)

  other_node : (i j : ℕ) → i ≡ 0 → j ≡ 3 → i ≡ j → ⊥
  other_node i j first second same = omega (arith, first, second, same)

  -- and nothing arrives
  not_arrived : HasArrived 3 to_a later → ⊥
  not_arrived (inl arrives) = false≢true (ap (λ (o : Option (List ℕ)). is_some o) (sym nothing.1 ∙ arrives.packet))
  not_arrived (inr (inl arrives)) = other_node 0 3 refl refl (ap (λ (o : Option ℕ). unwrap_or o 0) arrives.node)
  not_arrived (inr (inr (inl arrives))) = false≢true (ap (λ (o : Option (List ℕ)). is_some o) arrives.packet)
  not_arrived (inr (inr (inr none))) = none

  pub receiver_fails : FullReceiverFails
  receiver_fails = record {
    trial = record {
      draws = draws;
      topology = topology;
      before = H;
      handing = handing;
      later = later;
      n = 4;
      m = 3;
      a = b;
      b = a;
      own = b_own;
      other = a_own;
      x = to_a;
    };
    fair = record {
      rules = keeps_rules;
      grown = (follows_3, (follows_2 H filled, (follows_1 H filled, (follows H filled, filled.grown))));
      fresh = fresh;
      complete = complete;
    };
    first = record {
      sender = refl;
      receiver = refl;
      apart = nats_differ;
      sender_settled = b_is_settled H filled;
      receiver_settled = a_is_settled H filled;
      sender_unlisted = a_is_unlisted H filled;
      receiver_unlisted = b_is_unlisted H filled;
      handed = record { node = refl; entry = e H filled; did = refl; packet_in = input_is H filled; packet = goes_to_a };
    };
    sender_has_room = b_has_room H filled;
    receiver_is_full = a_lists_many H filled;
    fails = λ carried. not_arrived (carried.arrives complete);
  }
