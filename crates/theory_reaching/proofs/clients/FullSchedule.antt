-- A fresh schedule after a packet for a receiver that has no room for the sender: no delivery hands it over.
use Rattle.theory_reaching.proofs.Words.{AllByRecursion, Arrival, Bool, Delivery, HasNoFault, Ip6, Item, List, Made, MayTell, Node, None, Option, ServerNode, Some, address_at, and_right, ap, arrival, bubble_bytes, bubble_of, bubble_reads_back, bubble_small, client, deliveries, embedded, false, false≢true, filter_map, forwarded, forwarded_reads_back, has_room, is_teredo, item_in, journal, mentions, no_server_address, no_server_second, node_at, not, not_from_true, now, other_journal, refl, same_ep, same_ep-self, server, server_ep, server_in, subst, sym, to_server, true, udp, unwrap_or, value_written, ℕ, ◌∙◌, ◌≡◌}
use Rattle.theory_first_packets.proofs.tables.AtServer as at_server
use Rattle.theory_reaching.proofs.schedules.Throughout.{Goes, none_brings, NoneBrings, OneDelivery}
use Rattle.theory_reaching.proofs.clients.FullReceiver.{IsComing, coming, asking, no_advert, all_coming}
use Rattle.theory_reaching.proofs.clients.BothSettled.{Both, a_side, b_side, sender_end, receiver_end, number}
use Rattle.theory_reaching.proofs.clients.FullAtReceiver.{IsFull, at_first, stays, comes}

module _ (the : Both) (room : has_room (mentions (journal the.m the.H).entries) (now the.H) (address_at the.lab the.H the.n) ≡ false) where
  open the use {lab, H, q, n, m, c, d, x, are}

  abbrev own : Ip6
  own = address_at lab H n

  abbrev other : Ip6
  other = address_at lab H m

  abbrev IsIt : Item → Type 0
  IsIt = IsComing the

  module _ (this : OneDelivery lab) (sound : HasNoFault this.p) (full : IsFull the room this.G) where
    open this use {G, p, serial, y, g, delivered, at}

    abbrev Result : Type 0
    Result = Goes lab H q m (client d) x IsIt (IsFull the room) G p

    abbrev delivery : Delivery lab G p serial
    delivery = deliveries lab G p serial g delivered

    -- AT ITS SERVER

    module _ (is : y ≡ udp (embedded own) (server_ep (server_in other)) (bubble_bytes own other)) where
      abbrev row : ServerNode
      row = (receiver_end the).server_row

      may_tell : MayTell lab row own (embedded own)
      may_tell =
          let a = a_side the in
          let b = b_side the in
          let an = sender_end the in
          let bn = receiver_end the in
          record {
            rules = are.rules;
            sixteen = an.address.of.sixteen;
            usable = an.usable;
            no_primary = no_server_address (record { lab = lab; is = are.rules; a = b; b = a; an = bn; bn = an });
            no_secondary = no_server_second (record { lab = lab; is = are.rules; a = b; b = a; an = bn; bn = an });
            unforged = and_right (is_teredo own) (not (same_ep (embedded own) (embedded own)))
                (not_from_true (same_ep (embedded own) (embedded own)) (same_ep-self (embedded own)));
          }

      to_its : udp (embedded own) (server_ep (server_in other)) (bubble_bytes own other) ≡ udp (embedded own) (server_ep row.primary) (bubble_bytes own other)
      to_its = let end = receiver_end the in
          ap (λ z. udp (embedded own) (server_ep z) (bubble_bytes own other)) (end.address.of.server_is ∙ end.primary)

      came : Arrival lab G p d.server (server row) (udp (embedded own) (server_ep row.primary) (bubble_bytes own other))
      came = arrival lab G p serial delivery (record {
        number = d.server;
        node = server row;
        item = udp (embedded own) (server_ep row.primary) (bubble_bytes own other);
        at = at ∙ ap (λ (z : Item). Some z) (is ∙ to_its);
        goes = to_server lab are.rules G d.server row (embedded own) (bubble_bytes own other)
            (receiver_end the).server_is;
      })

      -- the server is no client
      no_client : d.server ≡ m → ⊥
      no_client same =
          let one : server row ≡ client d = ap (λ (o : Option Node). unwrap_or o (server row))
          (sym (receiver_end the).server_is ∙ ap (node_at lab.topology) same ∙ are.to) in
          false≢true (ap is_client one) where
            is_client : Node → Bool
            is_client (client b) = true
            is_client _ = false

      passed_on : Result
      passed_on =
          let told = bubble_reads_back own other (sender_end the).address.of.sixteen
          (receiver_end the).address.of.sixteen in
          let made = at_server.passes_on (record {
            lab = lab;
            a = b_side the;
            end = receiver_end the;
            peer = own;
            from = embedded own;
            may = may_tell;
          }) G p (server_ep row.primary) came.did sound in
          record {
            made = subst (λ (ms : List Made). AllByRecursion IsIt (filter_map item_in ms)) (sym made) (
              coming (server_ep row.primary) (forwarded (Some (embedded own)) (bubble_bytes own other))
                  (value_written None (Some (embedded own)) (bubble_of own other)) refl
                  (forwarded_reads_back (bubble_bytes own other) _ (Some (embedded own)) told.bytes told.payload.read (bubble_small own other)
                  (sender_end the).made)
                  refl (no_advert the (server_ep row.primary)),
              tt,
            );
            stays = stays the room (record { this = this; sound = sound; full = full }) (journal m G) came.did.moment
                (other_journal lab G p d.server m came.did.node no_client) full.full;
            silent = λ b. no_client (ap (λ (o : Option ℕ). unwrap_or o d.server) (sym came.did.node ∙ b.node));
          }

    step : IsIt y → Result
    step (coming src z v is reads source none) = comes the room (record { this = this; sound = sound; full = full }) (record {
      src = src;
      z = z;
      v = v;
      is = is;
      reads = reads;
      source = source;
      no_advert = none;
    })
    step (asking is) = passed_on is

  -- so no delivery brings it
  pub none_come : NoneBrings lab H q m (client d) x
  none_come = none_brings lab H q m (client d) x IsIt (IsFull the room)
      (λ this sound is full. step this sound full is)
      (number the) (all_coming the) (at_first the room)
