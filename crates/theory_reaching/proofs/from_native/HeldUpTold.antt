-- A relay's bubble at a client, from the client's server: the client answers it, or does nothing.
use Rattle.theory_reaching.proofs.Words.{AllByRecursion, Arrival, Bool, Delivery, Entry, GivesToHost, HasNoFault, Ip6, IsElsewhere, Item, List, Made, None, Option, ReadsPayload, Send, ServerNode, Some, Span, Value, WayIn, [], address_at, all_leaves, ap, arrival, as_client, asks_at, bubble_bytes, bubble_message, bubble_of, bubble_small, client, client_in, client_settings, deliveries, each_so, embedded, enters_along, filter_map, forwarded, forwarded_reads_back, is_advert, is_let_in, item_in, items_of, journal, known, map, mentions, nats_of, node_at, now, option_and_then, other_way, part_of, refl, relay, send, sent, server_ep, sixes_apart, subst, sym, to_client, true, udp, value_written, words, ℕ, ◌∙◌, ◌∷◌, ◌≡◌}
use Rattle.theory_first_packets.proofs.tables.AtServer as at_server
use Rattle.theory_reaching.proofs.entries.ClientAnswers.{AnswersOnly, answers}
use Rattle.theory_reaching.proofs.relays.RelayEnds.{c_side, end, along, relay_there, relay_keeps, relay_elsewhere}
use Rattle.theory_reaching.proofs.from_native.RelayTells.{may_tell, from_its_server, its_way}
use Rattle.theory_reaching.proofs.relays.Relays.{RelayedHosts, AreRelayed}
use Rattle.theory_reaching.proofs.to_native.Unanswered.{brings_nothing}
use Rattle.theory_reaching.proofs.from_native.HeldUp as held_up
use Rattle.theory_reaching.proofs.from_native.HeldUp.{ForClient, answering}
use Rattle.theory_reaching.proofs.schedules.Throughout.{OneDelivery}

module _ (the : ForClient) (asks : Bool) where
  open the use {lab, H, n, m, c, h, r, x, q, is_for}

  abbrev are : AreRelayed lab H n m c h r
  are = is_for.are

  abbrev own : Ip6
  own = address_at lab H n

  abbrev k : ℕ
  k = h.relay

  abbrev the_three : RelayedHosts
  the_three = record { lab = lab; H = H; n = n; m = m; c = c; h = h; r = r; are = are }

  abbrev row : ServerNode
  row = (end the_three).server_row

  abbrev relay_is : node_at lab.topology k ≡ Some (relay r)
  relay_is = relay_there the_three

  abbrev there : option_and_then as_client (node_at lab.topology n) ≡ Some c
  there = ap (option_and_then as_client) are.client_is

  abbrev IsOnWay : Item → Type 0
  IsOnWay = held_up.IsOnWay the asks

  -- A DELIVERY

  module _ (this : OneDelivery lab) (sound : HasNoFault this.p) (way_in : WayIn lab this.G (asks_at lab c) (nats_of lab c) c.inside
      (embedded own)) where
    open this use {G, p, serial, y, g, delivered, at}

    abbrev delivery : Delivery lab G p serial
    delivery = deliveries lab G p serial g delivered

    -- THE SERVER'S BUBBLE AT THE CLIENT

    module _ (may : asks ≡ true) (is : y ≡ udp (server_ep row.primary) (embedded own) (forwarded (Some r.at) (bubble_bytes r.six own))) where
      abbrev z : List ℕ
      z = forwarded (Some r.at) (bubble_bytes r.six own)

      abbrev v : Value
      v = value_written None (Some r.at) (bubble_of r.six own)

      pub to_the_client : Arrival lab G p n (client c) (udp (server_ep row.primary) (embedded own) z)
      to_the_client = arrival lab G p serial delivery (record {
        number = n;
        node = client c;
        item = udp (server_ep row.primary) (embedded own) z;
        at = at ∙ ap (λ (u : Item). Some u) is;
        goes = to_client lab are.rules G n z are.client_is
            (is_let_in lab G (now G) (server_ep row.primary) (embedded own) n c are.rules are.chained there
            (enters_along lab G g.1 (server_ep row.primary) (nats_of lab c) c.inside (embedded own)
            (its_way the_three G way_in)));
      })

      reads : ReadsPayload v z
      reads =
          let b = at_server.reads (record {
            lab = lab;
            a = c_side the_three;
            end = end the_three;
            peer = r.six;
            from = r.at;
            may = may_tell the_three;
          }) in
          forwarded_reads_back (bubble_bytes r.six own) _ (Some r.at) b.bytes b.payload.read (bubble_small r.six own) (relay_keeps the_three).at

      abbrev pub got : Entry
      got = client_in (client_settings lab.topology c) (journal n G) (now G) (server_ep row.primary) z (words lab n G)

      pub answered : AnswersOnly (journal n G) (now G) own r.six r.at got
      answered = answers (record {
        s = client_settings lab.topology c;
        j = journal n G;
        n = now G;
        from = server_ep row.primary;
        x = z;
        v = v;
        reads = reads;
        server = from_its_server the_three;
        no_advert = ap is_advert (bubble_message r.six own);
        at = r.at;
        origin = refl;
      }) (words lab n G)

      -- of the native host the same is known
      pub as_known : known (mentions (got ∷ (journal n G).entries)) (now G) h.six ≡ known (mentions (journal n G).entries) (now G) h.six
      as_known = answered.others h.six (other_way r.six h.six (sixes_apart lab.topology are.rules k m r h relay_is are.host_is))

      bubbles : (us : List Send) → AllByRecursion (λ (u : Send). u ≡ send r.at (bubble_bytes own r.six)) us
          → AllByRecursion IsOnWay (filter_map item_in (map (λ (u : Send). sent (udp (embedded own) u.to u.bytes)) us))
      bubbles [] all = tt
      bubbles (u ∷ us) all = (answering may (ap (λ (w : Send). udp (embedded own) w.to w.bytes) all.0), bubbles us all.1)

      -- it makes such entries, and brings nothing
      pub made_at_client : AllByRecursion IsOnWay (items_of p)
      made_at_client = subst (λ (ms : List Made). AllByRecursion IsOnWay (filter_map item_in ms))
          (sym (all_leaves {lab = lab} {H = G} {q = p} {a = (c_side the_three)} {e = got} (record {
            end = end the_three;
            kinds = (along the_three).kinds;
            grown = g.1;
            way = way_in;
            did = to_the_client.did;
            sound = sound;
          }) got.step.sends refl (each_so (λ u same. subst (λ (w : Send). IsElsewhere lab w.to.ip (nats_of lab c)) (sym same)
          (relay_elsewhere the_three)) got.step.sends answered.sends)).made)
          (bubbles got.step.sends answered.sends)

      pub silent_at_client : GivesToHost n x p → ⊥
      silent_at_client = brings_nothing p n x (to_the_client.did.handed ∙ ap (λ (o : Option Span). option_and_then (part_of got.input) o) answered.handed)
          (to_the_client.did.late ∙ answered.late)
