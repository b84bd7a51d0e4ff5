-- A receiver that is barred for the sender, whose bubbles don't come to it straight: what the packet's record makes, and what is so after it.
use Rattle.theory_reaching.proofs.Words.{AllByRecursion, EntersPast, Full, Ip6, IsElsewhere, Item, Journal, Lab, List, Made, Send, ServerNode, Settings, Some, WayIn, [], address_at, address_is, and_right, ap, as_client, asks_at, at_same_moment, bubble_bytes, client, client_settings, each_so, embedded, ends_at, false, false≢true, fields_in, filter_map, forwarded, frame, has_cone, has_room, inl, inr, is_barred, is_fresh, is_led_to, is_let_in, is_teredo, item_in, journal, keeps_to_its_way, known, known_by, map, mentions, nat_history, nats_of, no_nat, node_at, now, option_and_then, own_address, qualification, refl, same_number, sent, server_elsewhere, server_ep, server_in, subst, sym, to_client, true, udp, words, ℕ, ◌∙◌, ◌∷◌, ◌≡◌, ◌⊎◌}
use Rattle.theory_first_packets.proofs.passing.Elsewhere.{elsewhere}
use Rattle.theory_reaching.proofs.schedules.ApartWays.{WaysApart, all_stay, entered_before}
use Rattle.theory_reaching.proofs.clients.BothSettled.{Both, a_side, b_side, differ, sender_end, receiver_end, sender_here, did, next, leave, e}
use Rattle.theory_reaching.proofs.clients.BothSettled.{receiver_stays, server_way_then}
use Rattle.theory_reaching.proofs.entries.BubblesOut.{IsBubbleTo, sends_bubbles}
use Rattle.theory_reaching.proofs.entries.ClientDeaf.{IsClosed}
use Rattle.theory_reaching.proofs.Tests.{never}

-- the receiver is neither fresh at the sender nor cone, and is barred for it; and the sender is cone, or not let in to it
pub record IsBarredThere (lab : Lab) (H : List Full) (n m : ℕ) : Type 0 where
  pub stale : is_fresh (now H) (known_by H n (address_at lab H m)) ≡ false
  pub plain : has_cone (address_at lab H m) ≡ false
  pub barred : is_barred (now H) (known_by H m (address_at lab H n)) ≡ true
  pub apart : (has_cone (address_at lab H n) ≡ true)
      ⊎ (is_led_to lab H (embedded (address_at lab H n)) (embedded (address_at lab H m)) m ≡ false)

module _ (the : Both) (there_barred : IsBarredThere the.lab the.H the.n the.m) where
  open the use {lab, H, q, n, m, c, d, x, are}

  abbrev own : Ip6
  own = address_at lab H n

  abbrev other : Ip6
  other = address_at lab H m

  abbrev setup : Settings
  setup = client_settings lab.topology d

  abbrev pub row : ServerNode
  row = (receiver_end the).server_row

  abbrev there : option_and_then as_client (node_at lab.topology m) ≡ Some d
  there = ap (option_and_then as_client) are.to

  abbrev pub IsShut : Type 0
  IsShut = is_led_to lab H (embedded own) (embedded other) m ≡ false

  -- WHAT IS ON ITS WAY

  -- the bubble to the receiver's server, and from there; and one to the receiver itself, where that isn't let in
  pub data IsComing (y : Item) : Type 0 where
    asking : y ≡ udp (embedded own) (server_ep (server_in other)) (bubble_bytes own other) → IsComing y
    told : y ≡ udp (server_ep row.primary) (embedded other) (forwarded (Some (embedded own)) (bubble_bytes own other)) → IsComing y
    straight : IsShut → y ≡ udp (embedded own) (embedded other) (bubble_bytes own other) → IsComing y

  abbrev pub Enters : List Full → ℕ → Type 0
  Enters G k = EntersPast lab G k (embedded own) (nats_of lab d) d.inside (embedded other)

  abbrev pub Closed : Journal → ℕ → Type 0
  Closed j t = IsClosed (is_barred t (known (mentions j.entries) t own)) (has_room (mentions j.entries) t own)

  -- the receiver answers no bubble of the sender; who wasn't let in isn't, and the receiver's server is
  pub record IsMute (G : List Full) : Type 0 where
    pub closed : Closed (journal m G) (now G)
    pub shut : IsShut → Enters G (now G) → ⊥
    pub way : WayIn lab G (asks_at lab d) (nats_of lab d) d.inside (embedded other)

  -- BEFORE THE FIRST DELIVERY

  shut_before : IsShut → Enters H (now H) → ⊥
  unfolding is_led_to
  shut_before led enters =
      let goes = to_client lab are.rules H m [] are.to
      (is_let_in lab H (now H) (embedded own) (embedded other) m d are.rules are.chained there enters) in
      false≢true (sym led ∙ ap (ends_at m) goes ∙ same_number m)

  ways_apart : WaysApart lab c d
  ways_apart = record {
    outside = (sender_end the).outside;
    outside_too = (receiver_end the).outside;
    differ = differ the;
  }

  stay : AllByRecursion (λ (k : ℕ). nat_history lab k (q ∷ H) ≡ nat_history lab k H) (nats_of lab d)
  stay = all_stay (record {
    lab = lab;
    H = H;
    q = q;
    n = n;
    c = c;
    d = d;
    apart = ways_apart;
    node = (did the).node;
    there = ap (option_and_then as_client) are.at;
    keeps = keeps_to_its_way lab H q are.grown.0;
    nats = (frame lab H q).nats;
  })
      (each_so (no_nat lab n (client c) are.at refl) (nats_of lab d) (receiver_end the).nats)

  pub at_first : IsMute (q ∷ H)
  at_first = record {
    closed = at_same_moment Closed H q m (journal m H) (next the).moment (receiver_stays the)
        (inl there_barred.barred);
    shut = λ led enters. shut_before led (entered_before lab H (q ∷ H) (now H) (embedded own) (nats_of lab d) d.inside (embedded other) stay
        (subst (Enters (q ∷ H)) (next the).moment enters));
    way = server_way_then the;
  }

  -- each send of the sender is a bubble
  abbrev sends : List Send
  sends = (e the).step.sends

  all_bubbles : AllByRecursion (IsBubbleTo own other) sends
  all_bubbles =
      let s = client_settings lab.topology c in
      let goes = are.handed.packet.destination in
      let teredo : is_teredo other ≡ true = (receiver_end the).address.of.teredo in
      subst (λ (z : Ip6). AllByRecursion (IsBubbleTo z other) sends)
      (address_is s (journal n H) own (sender_here the).address)
      (subst (λ (z : Ip6). AllByRecursion (IsBubbleTo (own_address (qualification s (journal n H))) z) sends) goes
      (sends_bubbles (record {
        s = s;
        j = journal n H;
        n = now H;
        x = x;
        w = words lab n H;
        is_one = are.handed.packet.packet;
        teredo = ap is_teredo goes ∙ teredo;
        stale = ap (λ (z : Ip6). is_fresh (now H) (known_by H n z)) goes ∙ there_barred.stale;
        plain = and_right (is_teredo (fields_in x).dst) (has_cone (fields_in x).dst) (ap has_cone goes ∙ there_barred.plain);
      })))

  abbrev Coming : Send → Type 0
  Coming s = IsComing (udp (embedded own) s.to s.bytes)

  -- one straight there isn't let in, since its sender isn't cone
  not_let_in : has_cone own ≡ false → IsShut
  not_let_in plain = by there_barred.apart where
    by : (has_cone own ≡ true) ⊎ IsShut → IsShut
    by (inl cone) = never (has_cone own) cone plain
    by (inr shut) = shut

  one_coming : (s : Send) → IsBubbleTo own other s → Coming s
  one_coming s (inl direct) = subst Coming (sym direct.1) (straight (not_let_in direct.0) refl)
  one_coming s (inr same) = subst Coming (sym same) (asking refl)

  one_elsewhere : (s : Send) → IsBubbleTo own other s → IsElsewhere lab s.to.ip (nats_of lab c)
  one_elsewhere s (inl direct) = subst (λ (z : Send). IsElsewhere lab z.to.ip (nats_of lab c)) (sym direct.1)
      (elsewhere (record {
        lab = lab;
        is = are.rules;
        a = a_side the;
        b = b_side the;
        an = sender_end the;
        bn = receiver_end the;
      }) (differ the))
  one_elsewhere s (inr same) = subst (λ (z : Send). IsElsewhere lab z.to.ip (nats_of lab c)) (sym same)
      (server_elsewhere (record {
        lab = lab;
        is = are.rules;
        a = b_side the;
        b = a_side the;
        an = receiver_end the;
        bn = sender_end the;
      }))

  items : (xs : List Send) → AllByRecursion (IsBubbleTo own other) xs
      → AllByRecursion IsComing (filter_map item_in (map (λ (s : Send). sent (udp (embedded own) s.to s.bytes)) xs))
  items [] all = tt
  items (s ∷ xs) all = (one_coming s all.0, items xs all.1)

  pub all_coming : AllByRecursion IsComing (filter_map item_in q.made)
  all_coming = subst (λ (ms : List Made). AllByRecursion IsComing (filter_map item_in ms))
      (sym (leave the sends refl (each_so one_elsewhere sends all_bubbles)).made) (items sends all_bubbles)

  -- AFTER A DELIVERY

  -- who wasn't let in isn't, where the NATs of the receiver's way stay as they were
  pub still_shut : (G : List Full) (p : Full) → IsMute G → p.moment ≡ now G
      → AllByRecursion (λ (j : ℕ). nat_history lab j (p ∷ G) ≡ nat_history lab j G) (nats_of lab d) → IsShut → Enters (p ∷ G) (now (p ∷ G)) → ⊥
  still_shut G p mute moment same led enters = mute.shut led (entered_before lab G (p ∷ G) (now G) (embedded own) (nats_of lab d) d.inside (embedded other)
      same (subst (Enters (p ∷ G)) moment enters))
