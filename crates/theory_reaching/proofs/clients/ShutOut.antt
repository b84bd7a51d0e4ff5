-- A packet that goes at once and isn't let in at the receiver's: it isn't let in later either.
use Rattle.theory_reaching.proofs.Words.{AllByRecursion, Comes, Contains, Delivery, EntersPast, Full, GivesToHost, Ip6, IsLetIn, IsMissed, Item, Lab, List, Node, Option, Some, WayIn, [], address_at, ap, arith, as_client, asks_at, client, comes_or_not, deliveries, each_so, embedded, ends_at, enters_along, enters_by_its_way, false, false≢true, filter_map, frame, has_cone, inl, inr, is_fresh, is_led_to, is_let_in, is_reached, is_some, item_in, keeps_to_its_way, known_by, let_in_too, nat_history, nats_left, nats_of, no_nat, node_at, now, option_and_then, reaches, refl, route, same_number, shut_there, slice_get, still_in, subst, sym, to_client, to_node, to_none, true, udp, unwrap_or, wire, ℕ, ◌<◌, ◌||◌, ◌∙◌, ◌∷◌, ◌≡◌, ◌⊎◌}
use Rattle.legal.specs.Deliveries.{to_nobody}
use Rattle.theory_reaching.proofs.schedules.ApartWays.{WaysApart, all_stay, entered_before}
use Rattle.theory_reaching.proofs.clients.Straight.{items_one}
use Rattle.theory_reaching.proofs.schedules.Throughout.{Goes, none_brings, NoneBrings, OneDelivery}
use Rattle.theory_reaching.proofs.clients.BothSettled.{Both, differ, sender_end, receiver_end, did, number, next, server_way_then}

-- a record that comes to nobody brings nothing
pub missed_brings : (lab : Lab) (G : List Full) (p : Full) (y : Item) (m : ℕ) (x : List ℕ) → IsMissed lab G p y → GivesToHost m x p → ⊥
missed_brings lab G p y m x is b = by b.packet where
  no_place : Contains [] x → ⊥
  no_place c = let within : c.0 < 0 = c.1 in omega (arith, within)

  by : (p.handed ≡ Some x) ⊎ Contains p.late x → ⊥
  by (inl handed) = false≢true (ap (λ (o : Option (List ℕ)). is_some o) (sym is.handed ∙ handed))
  by (inr late) = no_place (subst (λ (xs : List (List ℕ)). Contains xs x) is.late late)

module _ (the : Both)
    (quick : (is_fresh (now the.H) (known_by the.H the.n (address_at the.lab the.H the.m)) || has_cone (address_at the.lab the.H the.m)) ≡ true)
    (led : is_led_to the.lab the.H (embedded (address_at the.lab the.H the.n)) (embedded (address_at the.lab the.H the.m)) the.m ≡ false) where
  open the use {lab, H, q, n, m, c, d, x, are}

  abbrev own : Ip6
  own = address_at lab H n

  abbrev other : Ip6
  other = address_at lab H m

  abbrev there : option_and_then as_client (node_at lab.topology m) ≡ Some d
  there = ap (option_and_then as_client) are.to

  abbrev Enters : List Full → ℕ → Type 0
  Enters G k = EntersPast lab G k (embedded own) (nats_of lab d) d.inside (embedded other)

  -- NATs don't let it in, while they let in what the receiver's server sends
  record IsShutOff (G : List Full) : Type 0 where
    shut : Enters G (now G) → ⊥
    way : WayIn lab G (asks_at lab d) (nats_of lab d) d.inside (embedded other)

  -- BEFORE THE FIRST DELIVERY

  shut_before : Enters H (now H) → ⊥
  unfolding is_led_to
  shut_before enters =
      let goes = to_client lab are.rules H m [] are.to
      (is_let_in lab H (now H) (embedded own) (embedded other) m d are.rules are.chained there enters) in
      false≢true (sym led ∙ ap (ends_at m) goes ∙ same_number m)

  ways_apart : WaysApart lab c d
  ways_apart = record {
    outside = (sender_end the).outside;
    outside_too = (receiver_end the).outside;
    differ = differ the;
  }

  stay : AllByRecursion (λ (k : ℕ). nat_history lab k (q ∷ H) ≡ nat_history lab k H) (nats_of lab d)
  stay = all_stay (record {
    lab = lab;
    H = H;
    q = q;
    n = n;
    c = c;
    d = d;
    apart = ways_apart;
    node = (did the).node;
    there = ap (option_and_then as_client) are.at;
    keeps = keeps_to_its_way lab H q are.grown.0;
    nats = (frame lab H q).nats;
  })
      (each_so (no_nat lab n (client c) are.at refl) (nats_of lab d) (receiver_end the).nats)

  at_first : IsShutOff (q ∷ H)
  at_first = record {
    shut = λ enters. shut_before (entered_before lab H (q ∷ H) (now H) (embedded own) (nats_of lab d) d.inside (embedded other) stay
        (subst (Enters (q ∷ H)) (next the).moment enters));
    way = server_way_then the;
  }

  -- A DELIVERY

  abbrev IsIt : Item → Type 0
  IsIt y = y ≡ udp (embedded own) (embedded other) x

  module _ (this : OneDelivery lab) (is : IsIt this.y) (shut : IsShutOff this.G) where
    open this use {G, p, serial, y, g, delivered, at}

    abbrev Result : Type 0
    Result = Goes lab H q m (client d) x IsIt IsShutOff G p

    server_in : IsLetIn lab G (now G) (asks_at lab d) (embedded other) d
    server_in = is_let_in lab G (now G) (asks_at lab d) (embedded other) m d are.rules are.chained there
        (enters_along lab G g.1 (asks_at lab d) (nats_of lab d) d.inside (embedded other) shut.way)

    -- it comes to nobody
    to_no_node : (i : ℕ) (a : Node) → route lab G (now G) y ≡ reaches i a → ⊥
    to_no_node i a goes = by (comes_or_not (record { lab = lab; H = G; g = g.1; src = asks_at lab d; other = embedded own })
        (embedded other) d server_in) where
          by : Comes (record { lab = lab; H = G; g = g.1; src = asks_at lab d; other = embedded own }) (embedded other) d → ⊥
          by (let_in_too enters) = shut.shut (enters_by_its_way lab G (now G) (embedded own) (embedded other) d are.chained enters)
          by (shut_there j out) = false≢true (ap is_reached (sym (to_none lab are.rules G (embedded own) (embedded other) x j out)
              ∙ ap (route lab G (now G)) (sym is) ∙ goes))

    same_item : (z : Item) → slice_get (wire G) serial ≡ Some z → z ≡ y
    same_item z to = ap (λ (o : Option Item). unwrap_or o z) (sym to ∙ at)

    missed : (z : Item) → IsMissed lab G p z → Result
    missed z miss = record {
      made = subst (AllByRecursion IsIt) (sym (ap (filter_map item_in) miss.made)) tt;
      stays = record {
        shut = λ enters. shut.shut (entered_before lab G (p ∷ G) (now G) (embedded own) (nats_of lab d) d.inside (embedded other)
            (each_so (λ j _. miss.nats j) (nats_of lab d) (receiver_end the).nats) (subst (Enters (p ∷ G)) miss.moment enters));
        way = still_in {lab = lab} G {r = p} (record {
          follows = g.0;
          calm = nats_left lab p miss.still miss.lasting;
          moment = miss.moment;
        }) (asks_at lab d) (nats_of lab d) d.inside (embedded other) shut.way;
      };
      silent = missed_brings lab G p z m x miss;
    }

    goes_off : Result
    goes_off = by (deliveries lab G p serial g delivered) where
      by : Delivery lab G p serial → Result
      by (to_node i a z to reached) = absurd (to_no_node i a (ap (route lab G (now G)) (sym (same_item z to)) ∙ reached.leads))
      by (to_nobody z to miss) = missed z miss

  -- so no delivery brings it
  pub none_come : NoneBrings lab H q m (client d) x
  none_come = none_brings lab H q m (client d) x IsIt IsShutOff (λ this sound is shut. goes_off this is shut)
      (number the)
      (subst (AllByRecursion IsIt) (sym (items_one the quick)) (refl, tt)) at_first
