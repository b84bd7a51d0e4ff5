-- A receiver that is barred for the sender, whose bubbles don't come to it straight: it answers none that comes through its server.
use Rattle.theory_reaching.proofs.Words.{AllByRecursion, Comes, Delivery, Full, HasNoFault, Ip6, IsLetIn, IsMissed, Item, Journal, List, Node, Option, ServerNode, Some, address_at, ap, as_client, asks_at, at_same_moment, bubble_bytes, client, comes_or_not, deliveries, each_so, embedded, enters_along, enters_by_its_way, false≢true, filter_map, is_let_in, is_reached, item_in, journal, let_in_too, nats_left, nats_of, node_at, now, option_and_then, reaches, route, shut_there, slice_get, still_in, subst, sym, to_node, to_none, udp, unwrap_or, wire, ℕ, ◌∙◌, ◌≡◌}
use Rattle.legal.specs.Deliveries.{to_nobody}
use Rattle.theory_reaching.proofs.clients.BothSettled.{Both, receiver_end, number}
use Rattle.theory_reaching.proofs.clients.ShutOut.{missed_brings}
use Rattle.theory_reaching.proofs.schedules.Throughout.{Goes, none_brings, NoneBrings, OneDelivery}
use Rattle.theory_reaching.proofs.clients.BarredThere as there
use Rattle.theory_reaching.proofs.clients.BarredThere.{IsBarredThere, IsComing, asking, told, straight, IsMute}
use Rattle.theory_reaching.proofs.clients.BarredAtServer as at_its_server
use Rattle.theory_reaching.proofs.clients.BarredTold as barred_told

module _ (the : Both) (there_barred : IsBarredThere the.lab the.H the.n the.m) where
  open the use {lab, H, q, n, m, c, d, x, are}

  abbrev own : Ip6
  own = address_at lab H n

  abbrev other : Ip6
  other = address_at lab H m

  abbrev row : ServerNode
  row = (receiver_end the).server_row

  abbrev Closed : Journal → ℕ → Type 0
  Closed = there.Closed the there_barred

  abbrev IsIt : Item → Type 0
  IsIt = IsComing the there_barred

  abbrev IsMuteAt : List Full → Type 0
  IsMuteAt = IsMute the there_barred

  abbrev client_there : option_and_then as_client (node_at lab.topology m) ≡ Some d
  client_there = ap (option_and_then as_client) are.to

  -- A DELIVERY

  -- a delivery by which nothing came, and the receiver is mute
  pub record MuteDelivery : Type 0 where
    pub this : OneDelivery lab
    pub sound : HasNoFault this.p
    pub mute : IsMute the there_barred this.G

  module _ (mute_delivery : MuteDelivery) where
    open mute_delivery use {this, sound, mute}
    open this use {G, p, serial, y, g, delivered, at}

    abbrev Result : Type 0
    Result = Goes lab H q m (client d) x IsIt IsMuteAt G p

    abbrev delivery : Delivery lab G p serial
    delivery = deliveries lab G p serial g delivered

    -- STRAIGHT

    module _ (led : there.IsShut the there_barred) (is : y ≡ udp (embedded own) (embedded other) (bubble_bytes own other)) where
      server_in_here : IsLetIn lab G (now G) (asks_at lab d) (embedded other) d
      server_in_here = is_let_in lab G (now G) (asks_at lab d) (embedded other) m d are.rules are.chained client_there
          (enters_along lab G g.1 (asks_at lab d) (nats_of lab d) d.inside (embedded other) mute.way)

      -- it comes to nobody
      to_no_node : (i : ℕ) (a : Node) → route lab G (now G) y ≡ reaches i a → ⊥
      to_no_node i a goes = by (comes_or_not (record { lab = lab; H = G; g = g.1; src = asks_at lab d; other = embedded own })
          (embedded other) d server_in_here) where
            by : Comes (record { lab = lab; H = G; g = g.1; src = asks_at lab d; other = embedded own }) (embedded other) d → ⊥
            by (let_in_too enters) = mute.shut led (enters_by_its_way lab G (now G) (embedded own) (embedded other) d are.chained enters)
            by (shut_there j out) = false≢true (ap is_reached
                (sym (to_none lab are.rules G (embedded own) (embedded other) (bubble_bytes own other) j out)
                ∙ ap (route lab G (now G)) (sym is) ∙ goes))

      same_item : (u : Item) → slice_get (wire G) serial ≡ Some u → u ≡ y
      same_item u to = ap (λ (o : Option Item). unwrap_or o u) (sym to ∙ at)

      missed : (u : Item) → IsMissed lab G p u → Result
      missed u miss = record {
        made = subst (AllByRecursion IsIt) (sym (ap (filter_map item_in) miss.made)) tt;
        stays = record {
          closed = at_same_moment Closed G p m (journal m G) miss.moment (miss.journals m) mute.closed;
          shut = there.still_shut the there_barred G p mute miss.moment (each_so (λ j _. miss.nats j) (nats_of lab d) (receiver_end the).nats);
          way = still_in {lab = lab} G {r = p} (record { follows = g.0; calm = nats_left lab p miss.still miss.lasting; moment = miss.moment }) (asks_at lab d)
              (nats_of lab d) d.inside (embedded other) mute.way;
        };
        silent = missed_brings lab G p u m x miss;
      }

      goes_off : Result
      goes_off = by delivery where
        by : Delivery lab G p serial → Result
        by (to_node i a u to reached) = absurd (to_no_node i a (ap (route lab G (now G)) (sym (same_item u to)) ∙ reached.leads))
        by (to_nobody u to miss) = missed u miss

    step : IsIt y → Result
    step (asking is) = at_its_server.passed_on the there_barred this sound mute is
    step (told is) = barred_told.unanswered the there_barred this sound mute is
    step (straight led is) = goes_off led is

  -- so no delivery brings it
  pub none_come : NoneBrings lab H q m (client d) x
  none_come = none_brings lab H q m (client d) x IsIt IsMuteAt (λ this sound is mute. step (record { this = this; sound = sound; mute = mute }) is)
      (number the) (there.all_coming the there_barred) (there.at_first the there_barred)
