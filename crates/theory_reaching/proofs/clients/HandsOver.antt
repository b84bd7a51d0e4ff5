-- A packet that goes at once and is let in: the first delivery of a fresh schedule hands it over.
use Rattle.theory_reaching.proofs.Words.{AreFresh, Arrival, Bool, BringsWithin, ComesInTime, DATAGRAM_MAX, DeliversFresh, Full, GivesToHost, Grown, Ip6, IsHere, IsLetIn, List, Meets, WayIn, [], address_at, ap, arith, arrival, arrived, as_client, asked_along, asks_at, at_same_moment, client, client_settings, cone_along, deliveries, embedded, enters_along, enters_by_its_way, entry_of, false, false≢true, fields_in, handed_by, hands_packet, has_cone, has_room, inl, is_fresh, is_led_to, is_let_in, is_trusted_at, journal, known, known_by, length, meets, mentions, nats_of, not, now, option_and_then, packet_is_payload, read_as, refl, still_in, subst, suc, sym, to_client, true, udp, wire, words, ℕ, ◌&&◌, ◌++◌, ◌<◌, ◌||◌, ◌∙◌, ◌∷◌, ◌≡◌, ◌≤◌}
use Rattle.theory_reaching.proofs.Tests.{held}
use Rattle.theory_reaching.proofs.clients.SettledClients.{let_in}
use Rattle.theory_reaching.proofs.clients.Straight.{first_of, delivers_it, its_place, long}
use Rattle.theory_reaching.proofs.clients.BothSettled.{Both, a_side, b_side, differ, sender_end, receiver_end, receiver_along, receiver_here, small, bytes}
use Rattle.theory_reaching.proofs.clients.BothSettled.{next, receiver_stays, server_way}

module _ (the : Both)
    (quick : (is_fresh (now the.H) (known_by the.H the.n (address_at the.lab the.H the.m)) || has_cone (address_at the.lab the.H the.m)) ≡ true)
    (led : (is_fresh (now the.H) (known_by the.H the.n (address_at the.lab the.H the.m)) && not (is_led_to the.lab the.H (embedded (address_at the.lab the.H the.n)) (embedded (address_at the.lab the.H the.m)) the.m)) ≡ false)
    (room : has_room (mentions (journal the.m the.H).entries) (now the.H) (address_at the.lab the.H the.n) ≡ true) where
  open the use {lab, H, q, n, m, c, d, x, are}

  abbrev own : Ip6
  own = address_at lab H n

  abbrev other : Ip6
  other = address_at lab H m

  abbrev ComesIn : List Full → Type 0
  ComesIn G = WayIn lab G (embedded own) (nats_of lab d) d.inside (embedded other)

  -- where the receiver is fresh it is let in now, and where it is cone everybody is
  way_in : ComesIn H
  way_in = by (is_fresh (now H) (known_by H n other)) quick led where
    by : (b : Bool) → (b || has_cone other) ≡ true → (b && not (is_led_to lab H (embedded own) (embedded other) m)) ≡ false → ComesIn H
    by true e f = asked_along lab H are.grown.1 (embedded own) (nats_of lab d) d.inside (embedded other)
        (enters_by_its_way lab H (now H) (embedded own) (embedded other) d are.chained
        (let_in lab H m d (embedded own) (embedded other) are.to (held (is_led_to lab H (embedded own) (embedded other) m) f)))
    by false e f = cone_along lab H (asks_at lab d) (embedded own) (nats_of lab d) d.inside (embedded other)
        ((receiver_along the).cone e) (server_way the)

  let_in_then : IsLetIn lab (q ∷ H) (now (q ∷ H)) (embedded own) (embedded other) d
  let_in_then = is_let_in lab (q ∷ H) (now (q ∷ H)) (embedded own) (embedded other) m d are.rules are.chained
      (ap (option_and_then as_client) are.to)
      (enters_along lab (q ∷ H) are.grown (embedded own) (nats_of lab d) d.inside (embedded other)
      (still_in H (next the) (embedded own) (nats_of lab d) d.inside (embedded other) way_in))

  -- THE RECEIVER

  -- the sender is one that it meets
  its_meets : Meets (client_settings lab.topology d) other own
  its_meets = meets lab are.rules (b_side the) (a_side the)
      (receiver_end the) (sender_end the)
      (λ same. differ the (sym same))

  -- of the packet's own addresses
  its_own : (P : Ip6 → Ip6 → Type 0) → P other own → P (fields_in x).dst (fields_in x).src
  its_own P h = subst (λ (z : Ip6). P z (fields_in x).src) (sym are.handed.packet.destination)
      (subst (λ (z : Ip6). P other z) (sym are.handed.packet.source) h)

  module _ (p : Full) (g : Grown lab (p ∷ q ∷ H)) (fresh : DeliversFresh q [] p) where
    abbrev G : List Full
    G = q ∷ H

    came : Arrival lab G p m (client d) (udp (embedded own) (embedded other) x)
    came = arrival lab G p q.first
        (deliveries lab G p q.first g
        (delivers_it lab H q p g fresh (long the quick)))
        (record {
          number = m;
          node = client d;
          item = udp (embedded own) (embedded other) x;
          at = its_place the quick;
          goes = to_client lab are.rules G m x are.to let_in_then;
        })

    fits : (k : ℕ) → k ≤ 1280 → k ≤ DATAGRAM_MAX
    fits k h = omega (arith, h)

    here_then : IsHere (client_settings lab.topology d) (journal m G) other
    here_then = at_same_moment (λ j k. IsHere (client_settings lab.topology d) j other) H q m (journal m H)
        (next the).moment (receiver_stays the) (receiver_here the)

    room_then : has_room (mentions (journal m G).entries) (now G) own ≡ true
    room_then = at_same_moment (λ j k. has_room (mentions j.entries) k own ≡ true) H q m (journal m H)
        (next the).moment (receiver_stays the) room

    pub brings : GivesToHost m x p
    brings =
        let hands = hands_packet (record {
          s = client_settings lab.topology d;
          j = journal m G;
          n = now G;
          p = fields_in x;
          meets = its_own (Meets (client_settings lab.topology d)) its_meets;
          trusted = is_trusted_at (embedded (fields_in x).src) (known (mentions (journal m G).entries) (now G) (fields_in x).src);
          knows = record {
            here = its_own (λ to from. IsHere (client_settings lab.topology d) (journal m G) to) here_then;
            room = its_own (λ to from. has_room (mentions (journal m G).entries) (now G) from ≡ true) room_then;
            trust = refl;
          };
          small = small the;
        })
        (packet_is_payload x (fields_in x) (bytes the) (fits (length x) are.handed.packet.short)
        (read_as x are.handed.packet.packet)) are.handed.packet.no_bubble (words lab m G) in
        let same : entry_of lab G (now G) m (embedded other) (arrived (embedded (fields_in x).src) x) (client d)
        ≡ entry_of lab G (now G) m (embedded other) (arrived (embedded own) x) (client d) =
        ap (λ (z : Ip6). entry_of lab G (now G) m (embedded other) (arrived (embedded z) x) (client d)) are.handed.packet.source in
        record { node = came.did.node; packet = inl (came.did.handed ∙ ap handed_by (sym same) ∙ hands.handed) }

  -- THE SCHEDULE

  some : (p : Full) (later : List Full) → Grown lab (p ∷ later ++ q ∷ H) → AreFresh q (p ∷ later) → BringsWithin 1 m (client d) x (p ∷ later)
  some p later g fresh =
      let f = first_of lab H q p later g fresh in
      record { rest = f.rest; first = f.record_ ∷ []; split = f.split; few = omega arith; comes = inl (brings f.record_ f.grown f.fresh) }

  pub in_time : (later : List Full) → Grown lab (later ++ q ∷ H) → AreFresh q later → ComesInTime H q m (client d) x later 1
  in_time [] g fresh = record {
    whole = λ complete. absurd (false≢true (complete q.first (omega arith)
        (at_first (length (wire (q ∷ H))) (long the quick))));
    enough = λ short many. absurd (let one : 1 ≤ 0 = many in omega (arith, one));
  } where
    at_first : (len : ℕ) → len ≡ suc q.first → q.first < len
    at_first len same = omega (arith, same)
  in_time (p ∷ later) g fresh = record { whole = λ complete. some p later g fresh; enough = λ short many. some p later g fresh }
