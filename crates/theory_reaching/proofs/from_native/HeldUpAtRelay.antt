-- A native host's packet at its relay, and the client's bubble there: what it lets go is the packet alone.
use Rattle.theory_reaching.proofs.Words.{AllByRecursion, Arrival, Bool, Delivery, Entry, Full, HasNoFault, Input, Ip6, Item, Journal, List, Made, None, Option, ReadsBubble, RelaySettings, Send, Some, Span, [], address_at, ap, armed, arrival, arrived, at_same_moment, bubble_bytes, bubble_of, bubble_reads_back, bubble_to, client, deliveries, each_so, embedded, entry_input, false, fields_in, filter_map, from_six, inl, inr, is_some, item_in, journal, known, no_ep, node_at, node_is_reached, now, outright, own_ep, refl, relay, relay_in, relay_mentions, relay_settings, relay_six, send, six, six_made, subst, sym, true, udp, value_written, with_entry, ℕ, ◌++◌, ◌∙◌, ◌∷◌, ◌≡◌, ◌⊎◌}
use Rattle.theory_reaching.proofs.relays.NodesApart.{relay_client}
use Rattle.theory_reaching.proofs.schedules.OtherRecords.{another, stays_at, way_still}
use Rattle.theory_reaching.proofs.relays.RelayEnds.{end, relay_there, relay_keeps}
use Rattle.theory_reaching.proofs.waiting.RelayKeepsOnly.{PassesOrKeeps, passes_or_keeps}
use Rattle.theory_reaching.proofs.waiting.RelayFrees.{FreesOnly, frees_only}
use Rattle.theory_reaching.proofs.relays.RelayMade.{each_made}
use Rattle.theory_reaching.proofs.from_native.RelayTells.{its_bubble}
use Rattle.theory_reaching.proofs.relays.Relays.{RelayedHosts, AreRelayed}
use Rattle.theory_reaching.proofs.entries.TestRelayed.{RelaysIt, relays_it}
use Rattle.theory_reaching.proofs.schedules.Throughout.{Goes, OneDelivery}
use Rattle.theory_reaching.proofs.from_native.HeldUp as held_up
use Rattle.theory_reaching.proofs.from_native.HeldUp.{ForClient, asking, to_client_itself}

module _ (the : ForClient) (asks : Bool) where
  open the use {lab, H, n, m, c, h, r, x, q, is_for}

  abbrev are : AreRelayed lab H n m c h r
  are = is_for.are

  abbrev own : Ip6
  own = address_at lab H n

  abbrev k : ℕ
  k = h.relay

  abbrev relay_is : node_at lab.topology k ≡ Some (relay r)
  relay_is = relay_there (record { lab = lab; H = H; n = n; m = m; c = c; h = h; r = r; are = are })

  abbrev IsOnWay : Item → Type 0
  IsOnWay = held_up.IsOnWay the asks

  abbrev IsHeldUp : List Full → Type 0
  IsHeldUp = held_up.IsHeldUp the asks

  abbrev AtRelay : Bool → Journal → ℕ → Type 0
  AtRelay = held_up.AtRelay the asks

  abbrev Closed : Journal → ℕ → Type 0
  Closed = held_up.Closed the asks

  abbrev Mistrusted : Journal → ℕ → Type 0
  Mistrusted = held_up.Mistrusted the asks

  -- A DELIVERY

  module _ (this : OneDelivery lab) (sound : HasNoFault this.p) (up : IsHeldUp this.G) where
    open this use {G, p, serial, y, g, delivered, at}

    abbrev Result : Type 0
    Result = Goes lab H q n (client c) x IsOnWay IsHeldUp G p

    abbrev delivery : Delivery lab G p serial
    delivery = deliveries lab G p serial g delivered

    abbrev s : RelaySettings
    s = relay_settings lab.topology k r

    abbrev j : List Entry
    j = (journal k G).entries

    -- AT THE RELAY

    module _ (is : y ≡ six (Some h.relay) x) where
      to_relay : Arrival lab G p k (relay r) (six (Some h.relay) x)
      to_relay = arrival lab G p serial delivery (record {
        number = k;
        node = relay r;
        item = six (Some h.relay) x;
        at = at ∙ ap (λ (u : Item). Some u) is;
        goes = node_is_reached lab G (now G) (six (Some h.relay) x) k (relay r) are.rules relay_is refl;
      })

      abbrev done : Entry
      done = relay_six s j (now G) x

      does : PassesOrKeeps s j (now G) x is_for.packet.packet done
      does = passes_or_keeps s j (now G) x is_for.packet.packet

      abbrev IsSuch : Send → Type 0
      IsSuch u = IsOnWay (udp r.at u.to u.bytes)

      abbrev the_three : RelayedHosts
      the_three = record { lab = lab; H = H; n = n; m = m; c = c; h = h; r = r; are = are }

      such : asks ≡ true → (u : Send) → (u ≡ bubble_to s (fields_in x).dst) ⊎ (u ≡ send (embedded (fields_in x).dst) x) → IsSuch u
      such may u (inl same) = asking may (ap (λ (v : Send). udp r.at v.to v.bytes)
          (same ∙ its_bubble the_three (fields_in x).dst is_for.packet.destination))
      such may u (inr same) = to_client_itself (ap (λ (v : Send). udp r.at v.to v.bytes) same
          ∙ ap (λ (d : Ip6). udp r.at (embedded d) x) is_for.packet.destination)

      relays : asks ≡ false → RelaysIt j (now G) x done
      relays so = relays_it s j (now G) x is_for.packet.packet
          (ap (λ (d : Ip6). is_some (known (relay_mentions j) (now G) d).trusted) is_for.packet.destination
          ∙ subst (λ (b : Bool). AtRelay b (journal k G) (now G)) so up.waits)

      all_such : (b : Bool) → asks ≡ b → AllByRecursion IsSuch done.step.sends
      all_such true so = each_so (such so) done.step.sends does.sends
      all_such false so = each_so (λ u same. to_client_itself (ap (λ (v : Send). udp r.at v.to v.bytes) same
          ∙ ap (λ (d : Ip6). udp r.at (embedded d) x) is_for.packet.destination)) done.step.sends (relays so).sends

      still_so : (b : Bool) → asks ≡ b → AtRelay b (with_entry (journal k G) done) (now G)
      still_so true so = does.waits own (subst (λ (b : Bool). AtRelay b (journal k G) (now G)) so up.waits)
      still_so false so = ap (λ (d : Ip6). is_some (known (relay_mentions (done ∷ j)) (now G) d).trusted) (sym is_for.packet.destination)
          ∙ (relays so).trusts

      its_input : done.input ≡ from_six x
      its_input = entry_input lab G (now G) k no_ep (from_six x) (relay r)

      pub at_relay : Result
      at_relay = record {
        made = subst (λ (ms : List Made). AllByRecursion IsOnWay (filter_map item_in ms)) (sym (to_relay.did.made
            ∙ ap (λ (u : Input). outright (own_ep (relay r)) (armed G) 0 done.step.sends ++ six_made u done.step.six) its_input))
            (each_made IsOnWay r (armed G) 0 done.step.sends (six_made (from_six x) done.step.six) (all_such asks refl) tt);
        stays = record {
          waits = at_same_moment (AtRelay asks) G p k (with_entry (journal k G) done) to_relay.did.moment to_relay.did.later (still_so asks refl);
          closed = stays_at lab n Closed G p k to_relay.did.moment to_relay.did.node (relay_client the_three) up.closed;
          mistrusted = stays_at lab
              n Mistrusted G p k to_relay.did.moment to_relay.did.node (relay_client the_three) up.mistrusted;
          way = way_still lab c own G p (record { follows = g.0; calm = to_relay.calm; moment = to_relay.did.moment }) up.way;
        };
        silent = λ b. another p k n to_relay.did.node (relay_client the_three) b.node;
      }

    -- THE CLIENT'S BUBBLE AT THE RELAY

    module _ (may : asks ≡ true) (is : y ≡ udp (embedded own) r.at (bubble_bytes own r.six)) where
      its_answer : Arrival lab G p k (relay r) (udp (embedded own) r.at (bubble_bytes own r.six))
      its_answer = arrival lab G p serial delivery (record {
        number = k;
        node = relay r;
        item = udp (embedded own) r.at (bubble_bytes own r.six);
        at = at ∙ ap (λ (u : Item). Some u) is;
        goes = node_is_reached lab G (now G) (udp (embedded own) r.at (bubble_bytes own r.six)) k (relay r) are.rules relay_is refl;
      })

      abbrev heard : Entry
      heard = relay_in s j (now G) (embedded own) (bubble_bytes own r.six)

      bubble : ReadsBubble own r.six (bubble_bytes own r.six)
      bubble = bubble_reads_back own r.six (end
          (record { lab = lab; H = H; n = n; m = m; c = c; h = h; r = r; are = are })).address.of.sixteen (relay_keeps (record { lab = lab; H = H; n = n; m = m; c = c; h = h; r = r; are = are })).six

      frees : FreesOnly s j (now G) (embedded own) (bubble_bytes own r.six) (value_written None None (bubble_of own r.six)) bubble.payload
          bubble.bubble heard
      frees = frees_only s j (now G) (embedded own) (bubble_bytes own r.six) (value_written None None (bubble_of own r.six)) bubble.payload
          bubble.bubble

      heard_input : heard.input ≡ arrived (embedded own) (bubble_bytes own r.six)
      heard_input = entry_input lab G (now G) k r.at (arrived (embedded own) (bubble_bytes own r.six)) (relay r)

      its_waits : AtRelay true (journal k G) (now G)
      its_waits = subst (λ (b : Bool). AtRelay b (journal k G) (now G)) may up.waits

      pub at_relay_again : Result
      at_relay_again = record {
        made = subst (λ (ms : List Made). AllByRecursion IsOnWay (filter_map item_in ms)) (sym (its_answer.did.made
            ∙ ap (λ (u : Input). outright (own_ep (relay r)) (armed G) 0 heard.step.sends ++ six_made u heard.step.six) heard_input
            ∙ ap (λ (o : Option Span). outright (own_ep (relay r)) (armed G) 0 heard.step.sends
            ++ six_made (arrived (embedded own) (bubble_bytes own r.six)) o) frees.six))
            (each_made IsOnWay r (armed G) 0 heard.step.sends [] (each_so (λ u same. to_client_itself (ap (λ (v : Send). udp r.at v.to v.bytes) same))
            heard.step.sends (frees.sends x its_waits)) tt);
        stays = record {
          waits = at_same_moment (AtRelay asks) G p k (with_entry (journal k G) heard) its_answer.did.moment its_answer.did.later
              (subst (λ (b : Bool). AtRelay b (with_entry (journal k G) heard) (now G)) (sym may) (frees.waits x own its_waits));
          closed = stays_at lab n Closed G p k its_answer.did.moment its_answer.did.node (relay_client (record { lab = lab; H = H; n = n; m = m; c = c; h = h; r = r; are = are })) up.closed;
          mistrusted = stays_at lab
              n Mistrusted G p k its_answer.did.moment its_answer.did.node (relay_client (record { lab = lab; H = H; n = n; m = m; c = c; h = h; r = r; are = are })) up.mistrusted;
          way = way_still lab c own G p (record { follows = g.0; calm = its_answer.calm; moment = its_answer.did.moment }) up.way;
        };
        silent = λ b. another p k n its_answer.did.node (relay_client (record { lab = lab; H = H; n = n; m = m; c = c; h = h; r = r; are = are })) b.node;
      }
