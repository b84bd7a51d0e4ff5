-- A native host's packet for a client that may not test it yet: no delivery of what comes of it brings it to the client's host.
use Rattle.theory_reaching.proofs.Words.{AllByRecursion, Arrival, Bool, Delivery, Full, HasNoFault, Ip6, Item, List, Made, ServerNode, Some, address_at, ap, arrival, bubble_bytes, client, deliveries, filter_map, item_in, items_of, length, node_at, refl, server, server_ep, subst, sym, to_server, true, udp, wire, ◌∙◌, ◌∷◌, ◌≡◌}
use Rattle.theory_first_packets.proofs.tables.AtServer as at_server
use Rattle.theory_reaching.proofs.relays.NodesApart.{server_client, server_relay}
use Rattle.theory_reaching.proofs.schedules.OtherRecords.{another}
use Rattle.theory_reaching.proofs.relays.RelayEnds.{c_side, end}
use Rattle.theory_reaching.proofs.from_native.RelayTells.{may_tell}
use Rattle.theory_reaching.proofs.relays.Relays.{RelayedHosts, AreRelayed}
use Rattle.theory_reaching.proofs.schedules.Throughout.{Goes, none_brings, NoneBrings, OneDelivery}
use Rattle.theory_reaching.proofs.from_native.HeldUp as held_up
use Rattle.theory_reaching.proofs.from_native.HeldUp.{ForClient, given, asking, told, answering, to_client_itself}
use Rattle.theory_reaching.proofs.from_native.HeldUpAtRelay as at_relay
use Rattle.theory_reaching.proofs.from_native.HeldUpAtClient as at_client

module _ (the : ForClient) (asks : Bool) where
  open the use {lab, H, n, m, c, h, r, x, q, is_for}

  abbrev are : AreRelayed lab H n m c h r
  are = is_for.are

  abbrev own : Ip6
  own = address_at lab H n

  abbrev the_three : RelayedHosts
  the_three = record { lab = lab; H = H; n = n; m = m; c = c; h = h; r = r; are = are }

  abbrev row : ServerNode
  row = (end the_three).server_row

  abbrev server_is : node_at lab.topology c.server ≡ Some (server row)
  server_is = (end the_three).server_is

  abbrev IsOnWay : Item → Type 0
  IsOnWay = held_up.IsOnWay the asks

  abbrev IsHeldUp : List Full → Type 0
  IsHeldUp = held_up.IsHeldUp the asks

  -- A DELIVERY

  module _ (this : OneDelivery lab) (sound : HasNoFault this.p) (up : IsHeldUp this.G) where
    open this use {G, p, serial, y, g, delivered, at}

    abbrev Result : Type 0
    Result = Goes lab H q n (client c) x IsOnWay IsHeldUp G p

    abbrev delivery : Delivery lab G p serial
    delivery = deliveries lab G p serial g delivered

    -- THE RELAY'S BUBBLE AT THE CLIENT'S SERVER

    module _ (may : asks ≡ true) (is : y ≡ udp r.at (server_ep row.primary) (bubble_bytes r.six own)) where
      to_its_server : Arrival lab G p c.server (server row) (udp r.at (server_ep row.primary) (bubble_bytes r.six own))
      to_its_server = arrival lab G p serial delivery (record {
        number = c.server;
        node = server row;
        item = udp r.at (server_ep row.primary) (bubble_bytes r.six own);
        at = at ∙ ap (λ (u : Item). Some u) is;
        goes = to_server lab are.rules G c.server row r.at (bubble_bytes r.six own) server_is;
      })

      at_its_server : Result
      at_its_server =
          let d = to_its_server.did in
          record {
            made = subst (λ (ms : List Made). AllByRecursion IsOnWay (filter_map item_in ms)) (sym (at_server.passes_on (record {
              lab = lab;
              a = c_side the_three;
              end = end the_three;
              peer = r.six;
              from = r.at;
              may = may_tell the_three;
            }) G p
                (server_ep row.primary) d sound)) (told may refl, tt);
            stays = held_up.still_held_up the asks
                G p (record { follows = g.0; calm = to_its_server.calm; moment = d.moment }) c.server d.node
                (server_relay the_three) (server_client the_three) up;
            silent = λ b. another p c.server n d.node (server_client the_three) b.node;
          }

    pub step : IsOnWay y → Result
    step (given is) = at_relay.at_relay the asks
        this sound up is
    step (asking may is) = at_its_server may is
    step (told may is) = at_client.at_client the asks
        this sound up may is
    step (answering may is) = at_relay.at_relay_again the asks
        this sound up may is
    step (to_client_itself is) = at_client.goes_to_client the asks
        this sound up is

  -- so no delivery brings it
  pub none_come : q.first ≡ length (wire H) → AllByRecursion IsOnWay (items_of q) → IsHeldUp (q ∷ H) → NoneBrings lab H q n (client c) x
  none_come number all first = none_brings lab H q n (client c) x IsOnWay IsHeldUp
      (λ this sound is up. step this sound up is) number all first
