-- A bubble for a receiver that is barred for its sender, at the receiver's server, which tells the receiver.
use Rattle.theory_reaching.proofs.Words.{AllByRecursion, Arrival, Bool, Delivery, Full, HasNoFault, Ip6, Item, Journal, List, Made, MayTell, Node, Option, ServerNode, Some, address_at, and_right, ap, arrival, asks_at, at_same_moment, bubble_bytes, client, deliveries, embedded, false, false≢true, filter_map, is_teredo, item_in, journal, nats_of, no_server_address, no_server_second, node_at, not, not_from_true, other_journal, refl, same_ep, same_ep-self, server, server_ep, server_in, still_in, subst, sym, to_server, true, udp, unwrap_or, ℕ, ◌∙◌, ◌≡◌}
use Rattle.theory_first_packets.proofs.tables.AtServer as at_server
use Rattle.theory_reaching.proofs.clients.BothSettled.{Both, a_side, b_side, sender_end, receiver_end}
use Rattle.theory_reaching.proofs.schedules.Throughout.{Goes, OneDelivery}
use Rattle.theory_reaching.proofs.schedules.WayStays as way_stays
use Rattle.theory_reaching.proofs.clients.BarredThere as there
use Rattle.theory_reaching.proofs.clients.BarredThere.{IsBarredThere, IsComing, told, IsMute}

module _ (the : Both) (there_barred : IsBarredThere the.lab the.H the.n the.m) where
  open the use {lab, H, q, n, m, c, d, x, are}

  abbrev own : Ip6
  own = address_at lab H n

  abbrev other : Ip6
  other = address_at lab H m

  abbrev row : ServerNode
  row = (receiver_end the).server_row

  abbrev Closed : Journal → ℕ → Type 0
  Closed = there.Closed the there_barred

  abbrev IsIt : Item → Type 0
  IsIt = IsComing the there_barred

  abbrev IsMuteAt : List Full → Type 0
  IsMuteAt = IsMute the there_barred

  -- A DELIVERY

  module _ (this : OneDelivery lab) (sound : HasNoFault this.p) (mute : IsMute the there_barred this.G) where
    open this use {G, p, serial, y, g, delivered, at}

    abbrev Result : Type 0
    Result = Goes lab H q m (client d) x IsIt IsMuteAt G p

    abbrev delivery : Delivery lab G p serial
    delivery = deliveries lab G p serial g delivered

    module _ (is : y ≡ udp (embedded own) (server_ep (server_in other)) (bubble_bytes own other)) where
      may_tell : MayTell lab row own (embedded own)
      may_tell =
          let a = a_side the in
          let b = b_side the in
          let an = sender_end the in
          let bn = receiver_end the in
          record {
            rules = are.rules;
            sixteen = an.address.of.sixteen;
            usable = an.usable;
            no_primary = no_server_address (record { lab = lab; is = are.rules; a = b; b = a; an = bn; bn = an });
            no_secondary = no_server_second (record { lab = lab; is = are.rules; a = b; b = a; an = bn; bn = an });
            unforged = and_right (is_teredo own) (not (same_ep (embedded own) (embedded own)))
                (not_from_true (same_ep (embedded own) (embedded own)) (same_ep-self (embedded own)));
          }

      to_its : udp (embedded own) (server_ep (server_in other)) (bubble_bytes own other) ≡ udp (embedded own) (server_ep row.primary) (bubble_bytes own other)
      to_its = let end = receiver_end the in
          ap (λ z. udp (embedded own) (server_ep z) (bubble_bytes own other)) (end.address.of.server_is ∙ end.primary)

      came : Arrival lab G p d.server (server row) (udp (embedded own) (server_ep row.primary) (bubble_bytes own other))
      came = arrival lab G p serial delivery (record {
        number = d.server;
        node = server row;
        item = udp (embedded own) (server_ep row.primary) (bubble_bytes own other);
        at = at ∙ ap (λ (z : Item). Some z) (is ∙ to_its);
        goes = to_server lab are.rules G d.server row (embedded own) (bubble_bytes own other)
            (receiver_end the).server_is;
      })

      -- the server is no client
      no_client : d.server ≡ m → ⊥
      no_client same =
          let one : server row ≡ client d = ap (λ (o : Option Node). unwrap_or o (server row))
          (sym (receiver_end the).server_is ∙ ap (node_at lab.topology) same ∙ are.to) in
          false≢true (ap is_client one) where
            is_client : Node → Bool
            is_client (client b) = true
            is_client _ = false

      pub passed_on : Result
      passed_on =
          let f = came.did in
          record {
            made = subst (λ (ms : List Made). AllByRecursion IsIt (filter_map item_in ms)) (sym (at_server.passes_on (record {
              lab = lab;
              a = b_side the;
              end = receiver_end the;
              peer = own;
              from = embedded own;
              may = may_tell;
            }) G p
                (server_ep row.primary) f sound)) (told refl, tt);
            stays = record {
              closed = at_same_moment Closed G p m (journal m G) f.moment (other_journal lab G p d.server m f.node no_client) mute.closed;
              shut = there.still_shut the there_barred G p mute f.moment (way_stays.stay lab G p d.server (server row) f.node f.passed
                  (receiver_end the).server_is refl (nats_of lab d) (receiver_end the).nats);
              way = still_in {lab = lab} G {r = p} (record { follows = g.0; calm = came.calm; moment = f.moment }) (asks_at lab d) (nats_of lab d) d.inside (embedded other)
                  mute.way;
            };
            silent = λ b. no_client (ap (λ (o : Option ℕ). unwrap_or o d.server) (sym f.node ∙ b.node));
          }
