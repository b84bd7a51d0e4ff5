-- What comes to a client of a native host's packet that is held up: the relay's bubble, and the packet, which the client keeps for itself or drops.
use Rattle.theory_reaching.proofs.Words.{AllByRecursion, Arrival, Bool, Comes, Delivery, Entry, Full, HasNoFault, Ip6, IsLetIn, IsMissed, IsShutOut, Item, Journal, List, Made, Mention, None, Option, Send, ServerNode, Some, Span, [], address_at, ap, armed, arrival, as_client, asks_at, at_same_moment, bubble_bytes, by_way, client, client_in, client_settings, comes_or_not, deliveries, embedded, enters_along, false, false≢true, fields_in, filter_map, forwarded, has_room, inl, inr, is_barred, is_fresh, is_let_in, is_reached, is_trusted_at, item_in, journal, known, let_in_too, mention, mentions, nats_left, nats_of, node_at, now, option_and_then, part_of, relay, route, server_ep, shut_there, sixes_apart, slice_get, subst, sym, to_client, to_node, to_none, true, udp, unwrap_or, value_written, way_out, wire, with_entry, words, ℕ, ◌∙◌, ◌∷◌, ◌≡◌, ◌⊎◌}
use Rattle.legal.specs.Deliveries.{to_nobody}
use Rattle.theory_reaching.proofs.entries.ClientAnswers.{AnswersOnly}
use Rattle.theory_reaching.proofs.entries.NoRoomLeft.{full_still}
use Rattle.theory_reaching.proofs.clients.Unheard.{as_much_room}
use Rattle.theory_reaching.proofs.entries.ClientKeeps.{Wary, IsKeptBack, kept_back}
use Rattle.theory_reaching.proofs.relays.NodesApart.{client_relay}
use Rattle.theory_reaching.proofs.schedules.OtherRecords.{stays_at, way_still}
use Rattle.theory_reaching.proofs.relays.RelayEnds.{end, relay_there, no_server}
use Rattle.theory_reaching.proofs.relays.Relays.{RelayedHosts, AreRelayed}
use Rattle.theory_reaching.proofs.clients.ShutOut.{missed_brings}
use Rattle.theory_reaching.proofs.schedules.Throughout.{Goes, OneDelivery}
use Rattle.theory_reaching.proofs.to_native.Unanswered.{brings_nothing}
use Rattle.theory_reaching.proofs.from_native.HeldUp as held_up
use Rattle.theory_reaching.proofs.from_native.HeldUp.{ForClient}
use Rattle.theory_reaching.proofs.from_native.HeldUpTold as told_there

module _ (the : ForClient) (asks : Bool) where
  open the use {lab, H, n, m, c, h, r, x, q, is_for}

  abbrev are : AreRelayed lab H n m c h r
  are = is_for.are

  abbrev own : Ip6
  own = address_at lab H n

  abbrev k : ℕ
  k = h.relay

  abbrev the_three : RelayedHosts
  the_three = record { lab = lab; H = H; n = n; m = m; c = c; h = h; r = r; are = are }

  abbrev row : ServerNode
  row = (end the_three).server_row

  abbrev relay_is : node_at lab.topology k ≡ Some (relay r)
  relay_is = relay_there the_three

  abbrev there : option_and_then as_client (node_at lab.topology n) ≡ Some c
  there = ap (option_and_then as_client) are.client_is

  abbrev IsOnWay : Item → Type 0
  IsOnWay = held_up.IsOnWay the asks

  abbrev IsHeldUp : List Full → Type 0
  IsHeldUp = held_up.IsHeldUp the asks

  abbrev AtRelay : Bool → Journal → ℕ → Type 0
  AtRelay = held_up.AtRelay the asks

  abbrev Closed : Journal → ℕ → Type 0
  Closed = held_up.Closed the asks

  abbrev Mistrusted : Journal → ℕ → Type 0
  Mistrusted = held_up.Mistrusted the asks

  module _ (this : OneDelivery lab) (sound : HasNoFault this.p) (up : IsHeldUp this.G) where
    open this use {G, p, serial, y, g, delivered, at}

    abbrev Result : Type 0
    Result = Goes lab H q n (client c) x IsOnWay IsHeldUp G p

    abbrev delivery : Delivery lab G p serial
    delivery = deliveries lab G p serial g delivered

    -- THE SERVER'S BUBBLE

    module _ (may : asks ≡ true) (is : y ≡ udp (server_ep row.primary) (embedded own) (forwarded (Some r.at) (bubble_bytes r.six own))) where
      abbrev came : Arrival lab G p n (client c) (udp (server_ep row.primary) (embedded own) (forwarded (Some r.at) (bubble_bytes r.six own)))
      came = told_there.to_the_client the asks this sound up.way may is

      abbrev got_here : Entry
      got_here = told_there.got the asks this sound up.way may is

      abbrev answered_here : AnswersOnly (journal n G) (now G) own r.six r.at got_here
      answered_here = told_there.answered the asks this sound up.way may is

      abbrev as_known_here : known (mentions (got_here ∷ (journal n G).entries)) (now G) h.six ≡ known (mentions (journal n G).entries) (now G) h.six
      as_known_here = told_there.as_known the asks this sound up.way may is

      still_closed : Closed (journal n G) (now G) → Closed (with_entry (journal n G) got_here) (now G)
      still_closed (inl (inl barred)) = inl (inl (ap (is_barred (now G)) as_known_here ∙ barred))
      still_closed (inr fresh) = inr (ap (is_fresh (now G)) as_known_here ∙ fresh)
      still_closed (inl (inr full)) =
          inl (inr (subst (λ (ms : List Mention). has_room ms (now G) h.six ≡ false) (sym answered_here.then) (by answered_here.lists))) where
            by : ((got_here.step.sends ≡ []) × ((mention got_here).bearing.touches ≡ false))
                ⊎ ((has_room (mentions (journal n G).entries) (now G) r.six ≡ true) × ((mention got_here).bearing.touches ≡ true))
                → has_room (mention got_here ∷ mentions (journal n G).entries) (now G) h.six ≡ false
            by (inl quiet) = as_much_room (mention got_here) (mentions (journal n G).entries) (now G) quiet.1 h.six ∙ full
            by (inr listed) = full_still (mention got_here) (mentions (journal n G).entries) (now G) r.six answered_here.about listed.1 answered_here.moment h.six
                (sixes_apart lab.topology are.rules k m r h relay_is are.host_is) full

      pub at_client : Result
      at_client =
          let d = came.did in
          record {
            made = told_there.made_at_client the asks this sound up.way may is;
            stays = record {
              waits = stays_at lab k (AtRelay asks) G p n d.moment d.node (client_relay the_three) up.waits;
              closed = at_same_moment Closed G p n (with_entry (journal n G) got_here) d.moment d.later (still_closed up.closed);
              mistrusted = at_same_moment Mistrusted G p n (with_entry (journal n G) got_here) d.moment d.later
                  (ap (is_trusted_at r.at) as_known_here ∙ up.mistrusted);
              way = way_still lab c own G p (record { follows = g.0; calm = came.calm; moment = d.moment }) up.way;
            };
            silent = told_there.silent_at_client the asks this sound up.way may is;
          }

    -- THE PACKET AT THE CLIENT

    module _ (is : y ≡ udp r.at (embedded own) x) where
      -- it is let in
      module _ (enters : IsLetIn lab G (now G) r.at (embedded own) c) where
        to_itself : Arrival lab G p n (client c) (udp r.at (embedded own) x)
        to_itself = arrival lab G p serial delivery (record {
          number = n;
          node = client c;
          item = udp r.at (embedded own) x;
          at = at ∙ ap (λ (u : Item). Some u) is;
          goes = to_client lab are.rules G n x are.client_is enters;
        })

        abbrev kept : Entry
        kept = client_in (client_settings lab.topology c) (journal n G) (now G) r.at x (words lab n G)

        abbrev src : Ip6
        src = (fields_in x).src

        keeps_it : IsKeptBack (journal n G) (now G) r.at src kept
        keeps_it =
            let from = is_for.packet.source in
            kept_back (record {
              s = client_settings lab.topology c;
              j = journal n G;
              n = now G;
              from = r.at;
              x = x;
              v = value_written None None (fields_in x);
              reads = held_up.reads_packet the asks;
              no_server = no_server the_three;
              native = held_up.native the asks;
              no_reply = is_for.no_reply;
              closed = subst (Wary (mentions (journal n G).entries) (now G)) (sym from) up.closed;
              mistrusted = ap (λ (d : Ip6). is_trusted_at r.at (known (mentions (journal n G).entries) (now G) d)) from ∙ up.mistrusted;
            }) (words lab n G)

        at_itself : Result
        at_itself =
            let d = to_itself.did in
            let from = is_for.packet.source in
            record {
              made = subst (λ (ms : List Made). AllByRecursion IsOnWay (filter_map item_in ms)) (sym (d.made
                  ∙ ap (λ (us : List Send). (by_way lab G (now G) (way_out lab.chain c.nat) c.inside (armed G) 0 [] us).made) keeps_it.sends)) tt;
              stays = record {
                waits = stays_at lab k (AtRelay asks) G p n d.moment d.node (client_relay the_three) up.waits;
                closed = at_same_moment Closed G p n (with_entry (journal n G) kept) d.moment d.later
                    (subst (Wary (mentions (kept ∷ (journal n G).entries)) (now G)) from keeps_it.closed);
                mistrusted = at_same_moment Mistrusted G p n (with_entry (journal n G) kept) d.moment d.later
                    (ap (λ (a : Ip6). is_trusted_at r.at (known (mentions (kept ∷ (journal n G).entries)) (now G) a)) (sym from) ∙ keeps_it.mistrusted);
                way = way_still lab c own G p (record { follows = g.0; calm = to_itself.calm; moment = d.moment }) up.way;
              };
              silent = brings_nothing p n x (d.handed ∙ ap (λ (o : Option Span). option_and_then (part_of kept.input) o) keeps_it.handed)
                  (d.late ∙ keeps_it.late);
            }

      missed : (u : Item) → IsMissed lab G p u → Result
      missed u miss = record {
        made = subst (λ (ms : List Made). AllByRecursion IsOnWay (filter_map item_in ms)) (sym miss.made) tt;
        stays = record {
          waits = at_same_moment (AtRelay asks) G p k (journal k G) miss.moment (miss.journals k) up.waits;
          closed = at_same_moment Closed G p n (journal n G) miss.moment (miss.journals n) up.closed;
          mistrusted = at_same_moment Mistrusted G p n (journal n G) miss.moment (miss.journals n) up.mistrusted;
          way = way_still lab c own G p (record { follows = g.0; calm = nats_left lab p miss.still miss.lasting; moment = miss.moment }) up.way;
        };
        silent = missed_brings lab G p u n x miss;
      }

      same_item : (u : Item) → slice_get (wire G) serial ≡ Some u → u ≡ udp r.at (embedded own) x
      same_item u to = ap (λ (o : Option Item). unwrap_or o u) (sym to ∙ at) ∙ is

      -- or not
      shut_out : (b : ℕ) → IsShutOut lab G (now G) r.at (embedded own) b → Result
      shut_out b out = by delivery where
        by : Delivery lab G p serial → Result
        by (to_node a d u to reached) = absurd (false≢true (ap is_reached (sym (to_none lab are.rules G r.at (embedded own) x b out)
            ∙ ap (route lab G (now G)) (sym (same_item u to)) ∙ reached.leads)))
        by (to_nobody u to miss) = missed u miss

      pub goes_to_client : Result
      goes_to_client = by (comes_or_not (record { lab = lab; H = G; g = g.1; src = asks_at lab c; other = r.at }) (embedded own) c
          (is_let_in lab G (now G) (asks_at lab c) (embedded own) n c are.rules are.chained there
          (enters_along lab G g.1 (asks_at lab c) (nats_of lab c) c.inside (embedded own) up.way))) where
            by : Comes (record { lab = lab; H = G; g = g.1; src = asks_at lab c; other = r.at }) (embedded own) c → Result
            by (let_in_too enters) = at_itself enters
            by (shut_there b out) = shut_out b out
