-- A packet for a client that keeps packets for the sender, for which it is barred, and hears the sender's straight bubble: what its record
-- leaves, and that a complete schedule brings it.
use Rattle.theory_reaching.proofs.Words.{Afterwards, AllByRecursion, AllSent, AreFresh, Full, Grown, HasArrived, Ip6, IsComplete, IsHere, IsPair, Item, Journal, Keeps, Lab, List, Meets, None, Option, Pair, Peer, Some, Waits, WayIn, [], address_at, after_queued, ap, arith, as_client, asked_along, asks_at, at_same_moment, both_bubbles, client_settings, embedded, enters_by_its_way, false, false≢true, fields_in, filter_map, frame, has_cone, has_room, inl, inr, is_barred, is_fresh, is_led_to, is_some, is_trusted_at, item_in, items_of, journal, known, known_by, length, length-append, meets, mentions, nats_of, now, option_and_then, qualification, refl, server_elsewhere, slice_get, slice_get_within, still_in, subst, suc, sym, true, unwrap_or, waits_here, way_of_server, wire, with_entry, words, zero, ℕ, ◌++◌, ◌+◌, ◌∙◌, ◌∷◌, ◌≡◌, ◌≤◌, ◌⊎◌}
use Rattle.theory_first_packets.proofs.passing.Elsewhere.{elsewhere}
use Rattle.theory_reaching.proofs.clients.BothSettled.{Both, a_side, b_side, differ, sender_along, receiver_along, sender_settles, sender_end, receiver_end, sender_here, e, did, small, bytes, number, next, receiver_stays, server_way_then, leave}
use Rattle.theory_reaching.proofs.clients.SettledClients.{let_in}
use Rattle.theory_reaching.proofs.past_waiting.KeptPackets.{IsKept, each_kept}
use Rattle.theory_reaching.proofs.past_waiting.Footing.{Footing}
use Rattle.theory_reaching.proofs.past_waiting.Boards.{Run, there_or_new, straight, asking, IsOf, is_straight, is_asking, early, SomeBoard}
use Rattle.theory_reaching.proofs.past_waiting.Played.{few, arrives}

-- neither is fresh at the sender or cone. The sender has room for the receiver, keeps nothing for it, and may try it; the receiver has
-- room for the sender, is barred for it, keeps these packets, and is let in what comes from it
pub record IsPastWaiting (lab : Lab) (H : List Full) (n m : ℕ) (first : List ℕ) (rest : List (List ℕ)) : Type 0 where
  pub stale : is_fresh (now H) (known_by H n (address_at lab H m)) ≡ false
  pub plain : has_cone (address_at lab H m) ≡ false
  pub plain_sender : has_cone (address_at lab H n) ≡ false
  pub room : has_room (mentions (journal n H).entries) (now H) (address_at lab H m) ≡ true
  pub nothing_waits : (known_by H n (address_at lab H m)).waiting ≡ []
  pub unbarred : is_barred (now H) (known_by H n (address_at lab H m)) ≡ false
  pub heard : has_room (mentions (journal m H).entries) (now H) (address_at lab H n) ≡ true
  pub barred : is_barred (now H) (known_by H m (address_at lab H n)) ≡ true
  pub led : is_led_to lab H (embedded (address_at lab H n)) (embedded (address_at lab H m)) m ≡ true
  pub waits : (known_by H m (address_at lab H n)).waiting ≡ first ∷ rest

module _ (the : Both) (first : List ℕ) (rest : List (List ℕ)) (is : IsPastWaiting the.lab the.H the.n the.m first rest) where
  open the use {lab, H, q, n, m, c, d, x, are}

  abbrev own : Ip6
  own = address_at lab H n

  abbrev other : Ip6
  other = address_at lab H m

  -- the two
  abbrev pair : Pair
  pair = record { lab = lab; a = a_side the; b = b_side the; x = x }

  is_pair : IsPair pair
  is_pair = record {
    rules = are.rules;
    chained = are.chained;
    sender = sender_end the;
    receiver = receiver_end the;
    sender_there = ap (option_and_then as_client) are.at;
    receiver_there = ap (option_and_then as_client) are.to;
    apart = differ the;
    sender_kind = (sender_along the).kinds;
    receiver_kind = (receiver_along the).kinds;
    sender_cone = (sender_along the).cone;
    receiver_cone = (receiver_along the).cone;
    packet = are.handed.packet;
    small = small the;
    bytes = bytes the;
    sender_meets = meets lab are.rules (a_side the) (b_side the) (sender_end the) (receiver_end the) (differ the);
    receiver_meets = meets lab are.rules (b_side the) (a_side the) (receiver_end the) (sender_end the) (λ same. differ the (sym same));
  }

  abbrev run : Run
  run = record {
    p = pair;
    is = is_pair;
    before = H;
    r = q;
    first = first;
    rest = rest;
    each = subst (AllByRecursion (IsKept other own)) is.waits (each_kept lab H m d other own are.rules are.grown.1 are.to (receiver_along the).address);
  }

  -- THE SENDER

  -- what the tables say is of the packet's own addresses
  of_packet : (P : Ip6 → Ip6 → Type 0) → P own other → P (fields_in x).src (fields_in x).dst
  of_packet P h = subst (λ (z : Ip6). P (fields_in x).src z) (sym are.handed.packet.destination)
      (subst (λ (z : Ip6). P z other) (sym are.handed.packet.source) h)

  known_is : known_by H n (fields_in x).dst ≡ known_by H n other
  known_is = ap (known_by H n) are.handed.packet.destination

  stale_so : is_fresh (now H) (known_by H n (fields_in x).dst) ≡ false
  stale_so = ap (is_fresh (now H)) known_is ∙ is.stale

  its_meets : Meets (client_settings lab.topology c) (fields_in x).src (fields_in x).dst
  its_meets = of_packet (Meets (client_settings lab.topology c)) is_pair.sender_meets

  its_here : IsHere (client_settings lab.topology c) (journal n H) (fields_in x).src
  its_here = subst (IsHere (client_settings lab.topology c) (journal n H)) (sym are.handed.packet.source) (sender_here the)

  waits : Waits (record { s = client_settings lab.topology c; j = journal n H; n = now H; x = x; is_one = are.handed.packet.packet; meets = its_meets; here = its_here; small = small the; plain = are.handed.packet.no_bubble })
      stale_so (e the)
  waits =
      let dst = are.handed.packet.destination in
      waits_here (record { s = client_settings lab.topology c; j = journal n H; n = now H; x = x; is_one = are.handed.packet.packet; meets = its_meets; here = its_here; small = small the; plain = are.handed.packet.no_bubble })
      stale_so (ap has_cone dst ∙ is.plain) (ap (has_room (mentions (journal n H).entries) (now H)) dst ∙ is.room)
      (ap (λ (k : Peer). k.waiting) known_is ∙ is.nothing_waits, ap (is_barred (now H)) known_is ∙ is.unbarred) (words lab n H)

  about : (e the).peer ≡ Some other
  about = waits.about ∙ ap (λ (z : Ip6). Some z) are.handed.packet.destination

  sends : (e the).step.sends ≡ both_bubbles false own other
  sends = waits.sends ∙ ap (λ (z : Ip6). both_bubbles (has_cone z) z (fields_in x).dst) are.handed.packet.source
      ∙ ap (λ (z : Ip6). both_bubbles (has_cone own) own z) are.handed.packet.destination
      ∙ ap (λ cone. both_bubbles cone own other) is.plain_sender

  all : AllSent lab H q c own (both_bubbles false own other)
  all = leave the (both_bubbles false own other) sends (
    elsewhere (record { lab = lab; is = are.rules; a = a_side the; b = b_side the; an = sender_end the; bn = receiver_end the }) (differ the),
    (server_elsewhere (record { lab = lab; is = are.rules; a = b_side the; b = a_side the; an = receiver_end the; bn = sender_end the }), tt),
  )

  items : items_of q ≡ straight run ∷ asking run ∷ []
  items = ap (filter_map item_in) all.made

  left : Afterwards (record { s = client_settings lab.topology c; j = journal n H; n = now H; peer = other; e = e the; about = about; moment = waits.moment }) (x ∷ [])
      (is_trusted_at (embedded other) (known_by H n other))
  left = after_queued (record { s = client_settings lab.topology c; j = journal n H; n = now H; peer = other; e = e the; about = about; moment = waits.moment }) waits.queued waits.packet is.nothing_waits

  -- THE FOOTING

  outward : WayIn lab H (embedded own) (nats_of lab d) d.inside (embedded other)
  outward = asked_along lab H are.grown.1 (embedded own) (nats_of lab d) d.inside (embedded other)
      (enters_by_its_way lab H (now H) (embedded own) (embedded other) d are.chained (let_in lab H m d (embedded own) (embedded other) are.to is.led))

  ground : Footing pair (q ∷ H) (first ∷ rest) (is_trusted_at (embedded own) (known_by H m own)) (x ∷ []) (is_trusted_at (embedded other) (known_by H n other))
  ground = record {
    grown = are.grown;
    sender = ap (λ (j : Journal). (qualification (client_settings lab.topology c) j).address) (did the).later ∙ left.address ∙ (sender_along the).address;
    receiver = ap (λ (j : Journal). (qualification (client_settings lab.topology d) j).address) (receiver_stays the) ∙ (receiver_along the).address;
    sender_way = still_in H (next the) (asks_at lab c) (nats_of lab c) c.inside (embedded own) (way_of_server lab H n c own (sender_settles the));
    receiver_way = server_way_then the;
    inward = all.back.0;
    outward = still_in H (next the) (embedded own) (nats_of lab d) d.inside (embedded other) outward;
    receiver_keeps = at_same_moment (λ z t. Keeps z t own (first ∷ rest) (is_trusted_at (embedded own) (known_by H m own))) H q m (journal m H)
        (next the).moment (receiver_stays the) (record { room = is.heard; waits = is.waits; trust = refl });
    sender_keeps = at_same_moment (λ z t. Keeps z t other (x ∷ []) (is_trusted_at (embedded other) (known_by H n other))) H q n
        (with_entry (journal n H) (e the)) (next the).moment (did the).later left.keeps;
  }

  -- THE BOARD

  long : length (wire (q ∷ H)) ≡ length (wire H) + 2
  long = ap (λ (xs : List Item). length xs) ((frame lab H q).grows ∙ ap (λ (xs : List Item). wire H ++ xs) items)
      ∙ length-append (wire H) (straight run ∷ asking run ∷ [])

  -- the two bubbles
  of_two : (k j : ℕ) (y : Item) → k ≡ length (wire H) + j → slice_get (straight run ∷ asking run ∷ []) j ≡ Some y → IsOf run false None k y
  of_two k zero y same there =
      let at = number the in
      is_straight (omega (arith, same, at)) (ap (λ (o : Option Item). unwrap_or o y) (sym there))
  of_two k (suc zero) y same there =
      let at = number the in
      is_asking (omega (arith, same, at)) (ap (λ (o : Option Item). unwrap_or o y) (sym there))
  of_two k (suc (suc j)) y same there = absurd (false≢true (ap (λ (o : Option Item). is_some o) there))

  each_entry : (k : ℕ) (y : Item) → q.first ≤ k → slice_get (wire (q ∷ H)) k ≡ Some y → IsOf run false None k y
  each_entry k y low there =
      by (there_or_new (wire H) (straight run ∷ asking run ∷ []) k y
      (sym (ap (λ (xs : List Item). slice_get xs k) ((frame lab H q).grows ∙ ap (λ (xs : List Item). wire H ++ xs) items)) ∙ there)) where
        by : (slice_get (wire H) k ≡ Some y) ⊎ ((j : ℕ) × (k ≡ length (wire H) + j) × (slice_get (straight run ∷ asking run ∷ []) j ≡ Some y))
            → IsOf run false None k y
        by (inr new) = of_two k new.0 y new.1 new.2
        by (inl old) =
            let within = slice_get_within (wire H) k y old in
            let at = number the in
            absurd (omega (arith, within, at, low))

  begins : SomeBoard run []
  begins = record {
    heard = false;
    asked = false;
    released = false;
    t = None;
    board = record {
      forth = is_trusted_at (embedded own) (known_by H m own);
      back = is_trusted_at (embedded other) (known_by H n other);
      ground = ground;
      barred = λ _. at_same_moment (λ z t. is_barred t (known (mentions z.entries) t own) ≡ true) H q m (journal m H) (next the).moment (receiver_stays the) is.barred;
      free = λ h. absurd (false≢true h);
      each = each_entry;
      wide = (let len = long in let at = number the in omega (arith, len, at));
      long = (let len = long in let at = number the in omega (arith, len, at));
      straight_is = refl;
      asking_is = refl;
      none_told = λ _. refl;
      stands = early refl refl;
    };
  }

  -- THE SCHEDULE

  pub at_most_so_many : (later : List Full) → Grown lab (later ++ q ∷ H) → AreFresh q later → length later ≤ 5 + length (first ∷ rest)
  at_most_so_many later g fresh = few run later g fresh begins

  pub brings_it : (later : List Full) → Grown lab (later ++ q ∷ H) → AreFresh q later → IsComplete H q later → HasArrived m x later
  brings_it later g fresh complete = arrives run later g fresh begins complete
