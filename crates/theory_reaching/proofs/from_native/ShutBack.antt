-- `stale` from a native host: its relay sends the packet on, and the client's NATs don't let it in.
use Rattle.theory_reaching.proofs.Words.{AllByRecursion, Comes, Delivery, EntersPast, Full, GivesToHost, Grown, HasNoFault, Ip6, IsLetIn, Item, List, Node, Option, Some, [], address_at, ap, as_client, asks_at, client, comes_or_not, deliveries, embedded, ends_at, enters_along, enters_by_its_way, false, false≢true, filter_map, is_led_to, is_let_in, is_nat_node, is_reached, item_in, items_of, let_in_too, nat_history, native, nats_of, node_at, now, option_and_then, reaches, refl, relay, route, same_number, shut_there, six, slice_get, still_in, subst, suc, sym, to_client, to_node, to_none, udp, unwrap_or, wire, ℕ, ◌∙◌, ◌∷◌, ◌≡◌}
use Rattle.legal.specs.Deliveries.{to_nobody}
use Rattle.theory_reaching.proofs.schedules.WayStays as way_stays
use Rattle.theory_reaching.proofs.schedules.Throughout.{NoneBrings}
use Rattle.theory_reaching.proofs.schedules.ApartWays.{entered_before}
use Rattle.theory_reaching.proofs.relays.RelayEnds.{end, way, relay_there}
use Rattle.theory_reaching.proofs.clients.ShutOut.{missed_brings}
use Rattle.theory_reaching.proofs.relays.NodesApart.{relay_client}
use Rattle.theory_reaching.proofs.from_native.FromNatives.{SentBack, did, number, next, makes, sent_on, came, next_too}
use Rattle.theory_reaching.proofs.schedules.TwoDeliveries.{neither_brings}
use Rattle.theory_reaching.proofs.relays.Relays.{RelayedHosts}

module _ (the : SentBack) (led : is_led_to the.lab the.H the.r.at (embedded (address_at the.lab the.H the.n)) the.n ≡ false) where
  open the use {lab, H, q, n, m, c, h, r, x, back}

  abbrev own : Ip6
  own = address_at lab H n

  abbrev there : option_and_then as_client (node_at lab.topology n) ≡ Some c
  there = ap (option_and_then as_client) back.from.are.client_is

  abbrev Enters : List Full → ℕ → Type 0
  Enters G t = EntersPast lab G t r.at (nats_of lab c) c.inside (embedded own)

  shut_before : Enters H (now H) → ⊥
  unfolding is_led_to
  shut_before enters =
      let goes = to_client lab back.from.are.rules H n [] back.from.are.client_is
      (is_let_in lab H (now H) r.at (embedded own) n c back.from.are.rules back.from.are.chained there enters) in
      false≢true (sym led ∙ ap (ends_at n) goes ∙ same_number n)

  -- A RECORD OF A NODE THAT SENDS PAST NO NAT

  abbrev Stay : List Full → List Full → Type 0
  Stay F G = AllByRecursion (λ (k : ℕ). nat_history lab k F ≡ nat_history lab k G) (nats_of lab c)

  -- leaves the NATs of the client's way as they were
  stay : (G : List Full) (p : Full) (i : ℕ) (a : Node) → p.node ≡ Some i → p.passed ≡ [] → node_at lab.topology i ≡ Some a → is_nat_node a ≡ false
      → Stay (p ∷ G) G
  stay G p i a node passed at kind = way_stays.stay lab G p i a node passed at kind
      (nats_of lab c) (end (record { lab = lab; H = H; n = n; m = m; c = c; h = h; r = r; are = back.from.are })).nats

  stay_before : Stay (q ∷ H) H
  stay_before = let d = did the in stay H q m (native h) d.node d.passed back.from.are.host_is refl

  -- the host's packet is delivered to its relay
  pub record FirstDelivery : Type 0 where
    pub p : Full
    pub g : Grown lab (p ∷ q ∷ H)
    pub sound : HasNoFault p
    pub delivered : p.delivered ≡ Some q.first
    pub at : slice_get (wire (q ∷ H)) q.first ≡ Some (six (Some h.relay) x)

  module _ (first_delivery : FirstDelivery) where
    open first_delivery use {p, g, sound, delivered, at}

    abbrev F : List Full
    F = p ∷ q ∷ H

    abbrev the_three : RelayedHosts
    the_three = record { lab = lab; H = H; n = n; m = m; c = c; h = h; r = r; are = back.from.are }

    stay_then : Stay F (q ∷ H)
    stay_then = let d = (came the p g sound delivered at).did in
        stay (q ∷ H) p h.relay (relay r) d.node d.passed (relay_there the_three) refl

    -- the relay isn't the client
    pub silent : GivesToHost n x p → ⊥
    silent b = relay_client the_three
        (ap (λ (o : Option ℕ). unwrap_or o h.relay) (sym (came the p g sound delivered at).did.node ∙ b.node))

    moments : now F ≡ now H
    moments = (next_too the p g sound delivered at).moment ∙ (next the).moment

    shut_then : Enters F (now F) → ⊥
    shut_then enters = shut_before (entered_before lab H (q ∷ H) (now H) r.at (nats_of lab c) c.inside (embedded own) stay_before
        (entered_before lab (q ∷ H) F (now H) r.at (nats_of lab c) c.inside (embedded own) stay_then (subst (Enters F) moments enters)))

    server_in : IsLetIn lab F (now F) (asks_at lab c) (embedded own) c
    server_in = is_let_in lab F (now F) (asks_at lab c) (embedded own) n c back.from.are.rules back.from.are.chained there
        (enters_along lab F g (asks_at lab c) (nats_of lab c) c.inside (embedded own)
        (still_in (q ∷ H) (next_too the p g sound delivered at) (asks_at lab c) (nats_of lab c) c.inside
        (embedded own) (still_in H (next the) (asks_at lab c) (nats_of lab c) c.inside (embedded own)
        (way the_three))))

    -- A SECOND DELIVERY

    module _ (s : Full) (grown : Grown lab (s ∷ F)) (again : s.delivered ≡ Some (suc q.first))
        (to : slice_get (wire F) (suc q.first) ≡ Some (udp r.at (embedded own) x)) where
      same_item : (z : Item) → slice_get (wire F) (suc q.first) ≡ Some z → z ≡ udp r.at (embedded own) x
      same_item z e = ap (λ (o : Option Item). unwrap_or o z) (sym e ∙ to)

      to_no_node : (i : ℕ) (a : Node) → route lab F (now F) (udp r.at (embedded own) x) ≡ reaches i a → ⊥
      to_no_node i a goes = by (comes_or_not (record { lab = lab; H = F; g = g; src = asks_at lab c; other = r.at }) (embedded own) c
          server_in) where
            by : Comes (record { lab = lab; H = F; g = g; src = asks_at lab c; other = r.at }) (embedded own) c → ⊥
            by (let_in_too enters) = shut_then (enters_by_its_way lab F (now F) r.at (embedded own) c back.from.are.chained enters)
            by (shut_there j out) = false≢true (ap is_reached (sym (to_none lab back.from.are.rules F r.at (embedded own) x j out) ∙ goes))

      -- comes to nobody
      pub ends_here : (items_of s ≡ []) × (GivesToHost n x s → ⊥)
      ends_here = by (deliveries lab F s (suc q.first) grown again) where
        by : Delivery lab F s (suc q.first) → (items_of s ≡ []) × (GivesToHost n x s → ⊥)
        by (to_node i a z e reached) = absurd (to_no_node i a (ap (route lab F (now F)) (sym (same_item z e)) ∙ reached.leads))
        by (to_nobody z e miss) = (ap (filter_map item_in) miss.made, missed_brings lab F s z n x miss)

  -- so no delivery brings it
  pub none_come : NoneBrings lab H q n (client c) x
  none_come = neither_brings (record {
    lab = lab;
    H = H;
    q = q;
    one = six (Some h.relay) x;
    two = udp r.at (embedded own) x;
    number = number the;
    makes = makes the;
    goes_on = λ p g sound delivered at. ap (filter_map item_in) (sent_on the p g sound delivered at);
  }) n (client c) x
      (λ s p grown sound delivered at again to. ends_here (record { p = p; g = grown.1; sound = sound; delivered = delivered; at = at }) s grown again to)
      (λ p g sound delivered at. silent (record { p = p; g = g; sound = sound; delivered = delivered; at = at }))
