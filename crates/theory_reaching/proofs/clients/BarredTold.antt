-- A bubble that its server tells a receiver that is barred for the sender: the receiver doesn't answer it.
use Rattle.theory_reaching.proofs.Words.{AllByRecursion, Arrival, Delivery, Entry, Ep, Full, HasNoFault, Ip4, Ip6, Item, Journal, List, Made, None, Option, ReadsPayload, Send, ServerNode, Some, Span, Value, WayIn, [], address_at, ap, armed, arrival, as_client, asks_at, at_same_moment, bubble_bytes, bubble_message, bubble_of, bubble_reads_back, bubble_small, by_way, client, client_in, client_settings, deliveries, embedded, enters_along, filter_map, forwarded, forwarded_reads_back, is_advert, is_from_server, is_let_in, item_in, journal, nats_of, now, option_and_then, or_left, part_of, refl, same_ep, same_ep-self, server_ep, still_in, subst, sym, to_client, true, udp, value_written, way_out, with_entry, words, ℕ, ◌∙◌, ◌≡◌}
use Rattle.theory_reaching.proofs.clients.BothSettled.{Both, sender_end, receiver_end}
use Rattle.theory_reaching.proofs.entries.ClientDeaf.{IsDeaf, deaf}
use Rattle.theory_reaching.proofs.schedules.Throughout.{Goes, OneDelivery}
use Rattle.theory_reaching.proofs.to_native.Unanswered.{brings_nothing}
use Rattle.theory_reaching.proofs.schedules.WayStays as way_stays
use Rattle.theory_reaching.proofs.clients.BarredThere as there
use Rattle.theory_reaching.proofs.clients.BarredThere.{IsBarredThere, IsComing, IsMute}

module _ (the : Both) (there_barred : IsBarredThere the.lab the.H the.n the.m) where
  open the use {lab, H, q, n, m, c, d, x, are}

  abbrev own : Ip6
  own = address_at lab H n

  abbrev other : Ip6
  other = address_at lab H m

  abbrev row : ServerNode
  row = (receiver_end the).server_row

  abbrev Closed : Journal → ℕ → Type 0
  Closed = there.Closed the there_barred

  abbrev IsIt : Item → Type 0
  IsIt = IsComing the there_barred

  abbrev IsMuteAt : List Full → Type 0
  IsMuteAt = IsMute the there_barred

  -- A DELIVERY

  module _ (this : OneDelivery lab) (sound : HasNoFault this.p) (mute : IsMute the there_barred this.G) where
    open this use {G, p, serial, y, g, delivered, at}

    abbrev Result : Type 0
    Result = Goes lab H q m (client d) x IsIt IsMuteAt G p

    abbrev delivery : Delivery lab G p serial
    delivery = deliveries lab G p serial g delivered

    module _ (is : y ≡ udp (server_ep row.primary) (embedded other) (forwarded (Some (embedded own)) (bubble_bytes own other))) where
      abbrev z : List ℕ
      z = forwarded (Some (embedded own)) (bubble_bytes own other)

      abbrev v : Value
      v = value_written None (Some (embedded own)) (bubble_of own other)

      its_way : WayIn lab G (server_ep row.primary) (nats_of lab d) d.inside (embedded other)
      its_way = subst (λ (src : Ep). WayIn lab G src (nats_of lab d) d.inside (embedded other))
          (ap server_ep (receiver_end the).primary) mute.way

      to_receiver : Arrival lab G p m (client d) (udp (server_ep row.primary) (embedded other) z)
      to_receiver = arrival lab G p serial delivery (record {
        number = m;
        node = client d;
        item = udp (server_ep row.primary) (embedded other) z;
        at = at ∙ ap (λ (u : Item). Some u) is;
        goes = to_client lab are.rules G m z are.to
            (is_let_in lab G (now G) (server_ep row.primary) (embedded other) m d are.rules are.chained (ap (option_and_then as_client) are.to)
            (enters_along lab G g.1 (server_ep row.primary) (nats_of lab d) d.inside (embedded other) its_way));
      })

      reads : ReadsPayload v z
      reads =
          let bubble = bubble_reads_back own other (sender_end the).address.of.sixteen
          (receiver_end the).address.of.sixteen in
          forwarded_reads_back (bubble_bytes own other) _ (Some (embedded own)) bubble.bytes bubble.payload.read (bubble_small own other)
          (sender_end the).made

      from_its : is_from_server (client_settings lab.topology d) (server_ep row.primary) ≡ true
      unfolding is_from_server
      from_its = or_left (same_ep (server_ep row.primary) (server_ep (client_settings lab.topology d).primary)) (same_ep (server_ep row.primary) (server_ep (client_settings lab.topology d).secondary))
          (ap (λ (a : Ip4). same_ep (server_ep row.primary) (server_ep a)) (receiver_end the).primary
          ∙ same_ep-self (server_ep row.primary))

      abbrev got : Entry
      got = client_in (client_settings lab.topology d) (journal m G) (now G) (server_ep row.primary) z (words lab m G)

      quiet : IsDeaf (journal m G) (now G) own got
      quiet = deaf (record {
        s = client_settings lab.topology d;
        j = journal m G;
        n = now G;
        from = server_ep row.primary;
        x = z;
        v = v;
        reads = reads;
        server = from_its;
        no_advert = ap is_advert (bubble_message own other);
        closed = mute.closed;
      }) (words lab m G)

      pub unanswered : Result
      unanswered =
          let f = to_receiver.did in
          record {
            made = subst (λ (ms : List Made). AllByRecursion IsIt (filter_map item_in ms)) (sym (f.made
                ∙ ap (λ (us : List Send). (by_way lab G (now G) (way_out lab.chain d.nat) d.inside (armed G) 0 [] us).made) quiet.sends)) tt;
            stays = record {
              closed = at_same_moment Closed G p m (with_entry (journal m G) got) f.moment f.later quiet.closed;
              shut = there.still_shut the there_barred G p mute f.moment (way_stays.stay lab G p m (client d) f.node
                  (f.passed ∙ ap (λ (us : List Send). (by_way lab G (now G) (way_out lab.chain d.nat) d.inside (armed G) 0 [] us).passed) quiet.sends)
                  are.to refl (nats_of lab d) (receiver_end the).nats);
              way = still_in {lab = lab} G {r = p} (record { follows = g.0; calm = to_receiver.calm; moment = f.moment }) (asks_at lab d) (nats_of lab d) d.inside
                  (embedded other) mute.way;
            };
            silent = brings_nothing p m x (f.handed ∙ ap (λ (o : Option Span). option_and_then (part_of got.input) o) quiet.handed) (f.late ∙ quiet.late);
          }
