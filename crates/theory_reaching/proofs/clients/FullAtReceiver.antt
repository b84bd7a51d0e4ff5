-- A delivery to a receiver that has no room for the sender: nothing comes of it, and there is no room afterwards.
use Rattle.theory_reaching.proofs.Words.{AllByRecursion, Comes, Contains, Delivery, Entry, Ep, Full, GivesToHost, HasNoFault, Ip6, IsMissed, IsReached, Item, Journal, List, Node, None, Option, ReadsPayload, Send, Some, Span, Value, WayIn, [], address_at, ap, arith, armed, as_client, asks_at, at_same_moment, by_way, client, client_in, client_settings, comes_or_not, deliveries, embedded, enters_along, false, false≢true, filter_map, has_room, inl, inr, is_advert, is_from_server, is_let_in, is_reached, is_some, is_teredo, item_in, journal, leaves_nats, let_in_too, mentions, message_in, nats_of, node_at, now, option_and_then, part_of, route, same_end, shut_there, slice_get, still_in, subst, sym, to_client, to_node, to_none, udp, unwrap_or, way_out, wire, words, ℕ, ◌&&◌, ◌<◌, ◌∙◌, ◌∷◌, ◌≡◌, ◌⊎◌}
use Rattle.legal.specs.Deliveries.{to_nobody}
use Rattle.theory_reaching.proofs.clients.ShutOut.{missed_brings}
use Rattle.theory_reaching.proofs.schedules.Throughout.{Goes, OneDelivery}
use Rattle.theory_reaching.proofs.clients.Unheard.{HearsNothing, hears_nothing}
use Rattle.theory_reaching.proofs.clients.FullReceiver.{IsComing}
use Rattle.theory_reaching.proofs.clients.BothSettled.{Both, sender_end, next, receiver_stays, server_way_then}

module _ (the : Both) (room : has_room (mentions (journal the.m the.H).entries) (now the.H) (address_at the.lab the.H the.n) ≡ false) where
  open the use {lab, H, q, n, m, c, d, x, are}

  abbrev own : Ip6
  own = address_at lab H n

  abbrev other : Ip6
  other = address_at lab H m

  abbrev there : option_and_then as_client (node_at lab.topology m) ≡ Some d
  there = ap (option_and_then as_client) are.to

  abbrev pub IsIt : Item → Type 0
  IsIt = IsComing the

  -- there is no room, and what the receiver's server sends is let in
  pub record IsFull (G : List Full) : Type 0 where
    pub full : has_room (mentions (journal m G).entries) (now G) own ≡ false
    pub way : WayIn lab G (asks_at lab d) (nats_of lab d) d.inside (embedded other)

  pub at_first : IsFull (q ∷ H)
  at_first = record {
    full = at_same_moment (λ (j : Journal) (k : ℕ). has_room (mentions j.entries) k own ≡ false) H q m (journal m H)
        (next the).moment (receiver_stays the) room;
    way = server_way_then the;
  }

  -- A DELIVERY

  -- a delivery by which nothing came, and the receiver is full
  pub record FullDelivery : Type 0 where
    pub this : OneDelivery lab
    pub sound : HasNoFault this.p
    pub full : IsFull this.G

  module _ (full_delivery : FullDelivery) where
    open full_delivery use {this, full}
    open this use {G, p, serial, y, g, delivered, at}

    abbrev pub Result : Type 0
    Result = Goes lab H q m (client d) x IsIt IsFull G p

    abbrev pub delivery : Delivery lab G p serial
    delivery = deliveries lab G p serial g delivered

    -- after a record at the same moment, with this journal
    pub stays : (j : Journal) → p.moment ≡ now G → journal m (p ∷ G) ≡ j → has_room (mentions j.entries) (now G) own ≡ false → IsFull (p ∷ G)
    stays j moment same none = record {
      full = at_same_moment (λ (i : Journal) (t : ℕ). has_room (mentions i.entries) t own ≡ false) G p m j moment same none;
      way = still_in {lab = lab} G {r = p} (record { follows = g.0; calm = leaves_nats lab G p serial delivery; moment = moment }) (asks_at lab d) (nats_of lab d)
          d.inside (embedded other) full.way;
    }

    missed : (z : Item) → IsMissed lab G p z → Result
    missed z miss = record {
      made = subst (AllByRecursion IsIt) (sym (ap (filter_map item_in) miss.made)) tt;
      stays = stays (journal m G) miss.moment (miss.journals m) full.full;
      silent = missed_brings lab G p z m x miss;
    }

    same_item : (z : Item) → slice_get (wire G) serial ≡ Some z → z ≡ y
    same_item z to = ap (λ (o : Option Item). unwrap_or o z) (sym to ∙ at)

    -- AT THE RECEIVER

    -- what is delivered is of the sender, to the receiver, and no advertisement of its server
    pub record IsOfSender : Type 0 where
      pub src : Ep
      pub z : List ℕ
      pub v : Value
      pub is : y ≡ udp src (embedded other) z
      pub reads : ReadsPayload v z
      pub source : v.packet.src ≡ own
      pub no_advert : (is_from_server (client_settings lab.topology d) src && is_advert (message_in v.packet)) ≡ false

    module _ (it : IsOfSender) where
      open it use {src, z, v, is, reads, source, no_advert}

      heard : IsReached lab G p m (client d) (udp src (embedded other) z) → Result
      heard reached =
          let s = client_settings lab.topology d in
          let full_then : has_room (mentions (journal m G).entries) p.moment v.packet.src ≡ false =
          subst (λ (t : ℕ). has_room (mentions (journal m G).entries) t v.packet.src ≡ false) (sym reached.moment)
          (ap (has_room (mentions (journal m G).entries) (now G)) source ∙ full.full) in
          let h : HearsNothing (journal m G) p.moment v.packet.src (client_in s (journal m G) p.moment src z (words lab m G)) =
          hears_nothing (record {
            s = s;
            j = journal m G;
            n = p.moment;
            from = src;
            x = z;
            v = v;
            reads = reads;
            teredo = ap is_teredo source ∙ (sender_end the).address.of.teredo;
            full = full_then;
            no_advert = no_advert;
          }) (words lab m G) in
          let e : Entry = client_in s (journal m G) p.moment src z (words lab m G) in
          let made : p.made ≡ [] = reached.act.made
          ∙ ap (λ (xs : List Send). (by_way lab G p.moment (way_out lab.chain d.nat) d.inside (armed G) 0 [] xs).made) h.sends in
          let handed : p.handed ≡ None = reached.act.handed ∙ ap (λ (o : Option Span). option_and_then (part_of e.input) o) h.handed in
          let late : p.late ≡ [] = reached.act.late ∙ h.late in
          record {
            made = subst (AllByRecursion IsIt) (sym (ap (filter_map item_in) made)) tt;
            stays = stays (record (journal m G) { entries = e ∷ (journal m G).entries }) reached.moment reached.act.later
                (subst (λ (t : ℕ). has_room (mentions (e ∷ (journal m G).entries)) t own ≡ false) reached.moment
                (ap (has_room (mentions (e ∷ (journal m G).entries)) p.moment) (sym source) ∙ h.full));
            silent = none_brought handed late;
          }
        where
          nowhere : Contains [] x → ⊥
          nowhere i = let within : i.0 < 0 = i.1 in omega (arith, within)

          none_brought : p.handed ≡ None → p.late ≡ [] → GivesToHost m x p → ⊥
          none_brought handed late b = by b.packet where
            by : (p.handed ≡ Some x) ⊎ Contains p.late x → ⊥
            by (inl over) = false≢true (ap (λ (o : Option (List ℕ)). is_some o) (sym handed ∙ over))
            by (inr one) = nowhere (subst (λ (xs : List (List ℕ)). Contains xs x) late one)

      -- it comes to the receiver, or to nobody
      to_receiver : (i : ℕ) (a : Node) (u : Item) → u ≡ y → IsReached lab G p i a u → Result
      to_receiver i a u same reached = by (comes_or_not (record { lab = lab; H = G; g = g.1; src = asks_at lab d; other = src })
          (embedded other) d (is_let_in lab G (now G) (asks_at lab d) (embedded other) m d are.rules are.chained there
          (enters_along lab G g.1 (asks_at lab d) (nats_of lab d) d.inside (embedded other) full.way))) where
            here : IsReached lab G p i a (udp src (embedded other) z)
            here = subst (IsReached lab G p i a) (same ∙ is) reached

            by : Comes (record { lab = lab; H = G; g = g.1; src = asks_at lab d; other = src }) (embedded other) d → Result
            by (let_in_too enters) =
                let end = same_end (route lab G (now G) (udp src (embedded other) z)) i m a (client d) here.leads
                (to_client lab are.rules G m z are.to enters) in
                heard (subst (λ (b : Node). IsReached lab G p m b (udp src (embedded other) z)) end.1
                (subst (λ (j : ℕ). IsReached lab G p j a (udp src (embedded other) z)) end.0 here))
            by (shut_there j out) = absurd (false≢true (ap is_reached
                (sym (to_none lab are.rules G src (embedded other) z j out) ∙ here.leads)))

      pub comes : Result
      comes = by delivery where
        by : Delivery lab G p serial → Result
        by (to_node i a u to reached) = to_receiver i a u (same_item u to) reached
        by (to_nobody u to miss) = missed u miss
