-- A relay that must ask for a client and gets no answer: it may not ask, or the client doesn't answer. Whatever comes to the relay for
-- the client stays there.
use Rattle.theory_reaching.proofs.Words.{AllByRecursion, AreFresh, Arrival, Bool, Contains, Delivery, Entry, Full, GivesToHost, Grown, HasNoFault, Input, Ip6, IsCalmNext, IsPacketItem, Item, Journal, List, Made, None, Option, ReadsPayload, RelaySettings, Send, ServerNode, Settings, Some, SomeBrings, Span, Value, WayIn, [], address_at, ap, arith, armed, arrival, as_client, asks_at, at_same_moment, bubble_bytes, bubble_message, bubble_of, bubble_small, by_way, client, client_in, client_settings, deliveries, each_so, embedded, enters_along, entry_input, false, false≢true, fields_in, filter_map, forwarded, forwarded_reads_back, from_six, has_cone, has_room, inl, inr, is_advert, is_barred, is_let_in, is_packet, is_some, item_in, items_of, journal, known, length, mentions, nats_of, no_ep, node_at, node_is_reached, now, option_and_then, outright, own_ep, part_of, refl, relay, relay_mentions, relay_settings, relay_six, server, server_ep, six, six_made, subst, sym, to_client, to_server, true, udp, value_written, way_out, wire, wire_is_made, with_entry, words, ℕ, ◌++◌, ◌<◌, ◌∙◌, ◌∷◌, ◌≡◌, ◌⊎◌}
use Rattle.theory_first_packets.proofs.tables.AtServer as at_server
use Rattle.theory_reaching.proofs.entries.ClientDeaf.{IsClosed, IsDeaf, deaf}
use Rattle.theory_reaching.proofs.entries.RelayAsks.{NoCone, Asks, asks}
use Rattle.theory_reaching.proofs.entries.RelayMute.{IsClosedTo, no_cone_of, IsMute, mute}
use Rattle.theory_reaching.proofs.schedules.OtherRecords.{another, stays_at, way_still}
use Rattle.theory_reaching.proofs.relays.RelayEnds.{c_side, end, relay_there, relay_keeps}
use Rattle.theory_reaching.proofs.relays.RelayMade.{each_made}
use Rattle.theory_reaching.proofs.from_native.RelayTells.{may_tell, its_bubble, from_its_server, its_way}
use Rattle.theory_reaching.proofs.relays.NodesApart.{relay_client, client_relay, client_native, relay_native, server_client, server_relay, server_native}
use Rattle.theory_reaching.proofs.relays.Relays.{RelayedHosts}
use Rattle.theory_reaching.proofs.schedules.Throughout.{one_of, Goes, none_brings, OneDelivery}

-- a record that hands nothing over brings nothing
pub brings_nothing : (p : Full) (n : ℕ) (x : List ℕ) → p.handed ≡ None → p.late ≡ [] → GivesToHost n x p → ⊥
brings_nothing p n x handed late b = by b.packet where
  nowhere : Contains [] x → ⊥
  nowhere i = let within : i.0 < 0 = i.1 in omega (arith, within)

  by : (p.handed ≡ Some x) ⊎ Contains p.late x → ⊥
  by (inl over) = false≢true (ap (λ (o : Option (List ℕ)). is_some o) (sym handed ∙ over))
  by (inr one) = nowhere (subst (λ (xs : List (List ℕ)). Contains xs x) late one)

-- a client and a host whose relay hears nothing of it
pub record UnansweredHosts : Type 0 where
  pub the : RelayedHosts
  pub hushed : Bool
  pub plain : hushed ≡ false → has_cone (address_at the.lab the.H the.n) ≡ false

module _ (unanswered_hosts : UnansweredHosts) where
  open unanswered_hosts use {the, hushed, plain}
  open the use {lab, H, n, m, c, h, r, are}

  abbrev own : Ip6
  own = address_at lab H n

  abbrev k : ℕ
  k = h.relay

  abbrev row : ServerNode
  row = (end the).server_row

  -- what is for the client, at the relay. Where the relay may ask and the client doesn't answer, the relay's bubble to the client's server,
  -- and the server's to the client
  pub data IsVain (y : Item) : Type 0 where
    for_client : (z : List ℕ) → y ≡ six (Some h.relay) z → (fields_in z).dst ≡ own → IsVain y
    asking : hushed ≡ false → y ≡ udp r.at (server_ep row.primary) (bubble_bytes r.six own) → IsVain y
    told : hushed ≡ false → y ≡ udp (server_ep row.primary) (embedded own) (forwarded (Some r.at) (bubble_bytes r.six own)) → IsVain y

  -- the relay doesn't trust the client, and is closed to it; the client is closed to the relay
  abbrev pub Untrusted : Journal → ℕ → Type 0
  Untrusted u t = is_some (known (relay_mentions u.entries) t own).trusted ≡ false

  abbrev pub RelayClosed : Journal → ℕ → Type 0
  RelayClosed u t = IsClosedTo (has_cone own) (is_barred t (known (relay_mentions u.entries) t own)) (has_room (relay_mentions u.entries) t own)

  abbrev pub ClientClosed : Journal → ℕ → Type 0
  ClientClosed u t = IsClosed (is_barred t (known (mentions u.entries) t r.six)) (has_room (mentions u.entries) t r.six)

  -- which of the two is
  abbrev pub ClosedBy : Bool → List Full → Type 0
  ClosedBy true G = RelayClosed (journal k G) (now G)
  ClosedBy false G = ClientClosed (journal n G) (now G)

  pub record IsUnheard (G : List Full) : Type 0 where
    pub untrusted : Untrusted (journal k G) (now G)
    pub closed : ClosedBy hushed G
    pub way : WayIn lab G (asks_at lab c) (nats_of lab c) c.inside (embedded own)

  abbrev relay_is : node_at lab.topology k ≡ Some (relay r)
  relay_is = relay_there the

  abbrev server_is : node_at lab.topology c.server ≡ Some (server row)
  server_is = (end the).server_is

  abbrev there : option_and_then as_client (node_at lab.topology n) ≡ Some c
  there = ap (option_and_then as_client) are.client_is

  -- A RECORD OF ANOTHER NODE

  closed_still : (G : List Full) (p : Full) (a : ℕ) → p.moment ≡ now G → p.node ≡ Some a → (a ≡ k → ⊥) → (a ≡ n → ⊥) → (b : Bool) → ClosedBy b G
      → ClosedBy b (p ∷ G)
  closed_still G p a moment node no_relay no_client true = stays_at lab k RelayClosed G p a moment node no_relay
  closed_still G p a moment node no_relay no_client false = stays_at lab n ClientClosed G p a moment node no_client

  pub still_unheard : (G : List Full) (p : Full) → IsCalmNext lab G p → (a : ℕ) → p.node ≡ Some a → (a ≡ k → ⊥) → (a ≡ n → ⊥) → IsUnheard G
      → IsUnheard (p ∷ G)
  still_unheard G p next a node no_relay no_client before = record {
    untrusted = stays_at lab k Untrusted G p a next.moment node no_relay before.untrusted;
    closed = closed_still G p a next.moment node no_relay no_client hushed before.closed;
    way = way_still lab c own G p next before.way;
  }

  -- A DELIVERY

  -- it brings nothing to the client's host or to the native
  pub record Ends (G : List Full) (p : Full) : Type 0 where
    pub made : AllByRecursion IsVain (items_of p)
    pub stays : IsUnheard (p ∷ G)
    pub native : p.node ≡ Some m → ⊥
    pub client : (x : List ℕ) → GivesToHost n x p → ⊥

  module _ (this : OneDelivery lab) (sound : HasNoFault this.p) (unheard : IsUnheard this.G) where
    open this use {G, p, serial, y, g, delivered, at}

    abbrev delivery : Delivery lab G p serial
    delivery = deliveries lab G p serial g delivered

    -- AT THE RELAY

    module _ (z : List ℕ) (is : y ≡ six (Some h.relay) z) (to_own : (fields_in z).dst ≡ own) where
      to_relay : Arrival lab G p k (relay r) (six (Some h.relay) z)
      to_relay = arrival lab G p serial delivery (record {
        number = k;
        node = relay r;
        item = six (Some h.relay) z;
        at = at ∙ ap (λ (u : Item). Some u) is;
        goes = node_is_reached lab G (now G) (six (Some h.relay) z) k (relay r) are.rules relay_is refl;
      })

      is_one : is_packet z ≡ true
      is_one = one_of IsPacketItem (wire G) serial (six (Some h.relay) z) (at ∙ ap (λ (u : Item). Some u) is) (wire_is_made lab G are.rules g.1).packets

      abbrev s : RelaySettings
      s = relay_settings lab.topology k r

      abbrev j : List Entry
      j = (journal k G).entries

      abbrev done : Entry
      done = relay_six s j (now G) z

      unknown : is_some (known (relay_mentions j) (now G) (fields_in z).dst).trusted ≡ false
      unknown = ap (λ (u : Ip6). is_some (known (relay_mentions j) (now G) u).trusted) to_own ∙ unheard.untrusted

      closed_so : hushed ≡ true → IsClosedTo (has_cone (fields_in z).dst) (is_barred (now G) (known (relay_mentions j) (now G) (fields_in z).dst))
          (has_room (relay_mentions j) (now G) (fields_in z).dst)
      closed_so so = subst (λ (d : Ip6). IsClosedTo (has_cone d) (is_barred (now G) (known (relay_mentions j) (now G) d))
          (has_room (relay_mentions j) (now G) d)) (sym to_own) (subst (λ (b : Bool). ClosedBy b G) so unheard.closed)

      no_cone : (b : Bool) → hushed ≡ b → NoCone (has_cone (fields_in z).dst) (has_room (relay_mentions j) (now G) (fields_in z).dst)
      no_cone true so = no_cone_of (has_cone (fields_in z).dst) (is_barred (now G) (known (relay_mentions j) (now G) (fields_in z).dst))
          (has_room (relay_mentions j) (now G) (fields_in z).dst) (closed_so so)
      no_cone false so = inl (ap has_cone to_own ∙ plain so)

      asked : Asks s j (now G) z is_one unknown done
      asked = asks s j (now G) z is_one unknown (no_cone hushed refl)

      -- what it sends is such
      abbrev IsSuch : Send → Type 0
      IsSuch u = IsVain (udp r.at u.to u.bytes)

      its_mute : hushed ≡ true → IsMute s j (now G) z is_one unknown done
      its_mute so = mute s j (now G) z is_one unknown (closed_so so)

      all_such : (b : Bool) → hushed ≡ b → AllByRecursion IsSuch done.step.sends
      all_such true so = subst (λ (us : List Send). AllByRecursion IsSuch us) (sym (its_mute so).sends) tt
      all_such false so = each_so (λ u same. asking so (ap (λ (v : Send). udp r.at v.to v.bytes)
          (same ∙ its_bubble the (fields_in z).dst to_own))) done.step.sends asked.sends

      its_input : done.input ≡ from_six z
      its_input = entry_input lab G (now G) k no_ep (from_six z) (relay r)

      still_closed : (b : Bool) → hushed ≡ b → ClosedBy b (p ∷ G)
      still_closed true so = at_same_moment RelayClosed G p k (with_entry (journal k G) done) to_relay.did.moment to_relay.did.later
          (subst (λ (d : Ip6). IsClosedTo (has_cone d) (is_barred (now G) (known (relay_mentions (done ∷ j)) (now G) d))
          (has_room (relay_mentions (done ∷ j)) (now G) d)) to_own (its_mute so).closed)
      still_closed false so =
          stays_at lab n ClientClosed G p k to_relay.did.moment to_relay.did.node (relay_client the)
          (subst (λ (b : Bool). ClosedBy b G) so unheard.closed)

      pub at_relay : Ends G p
      at_relay = record {
        made = subst (λ (ms : List Made). AllByRecursion IsVain (filter_map item_in ms)) (sym (to_relay.did.made
            ∙ ap (λ (u : Input). outright (own_ep (relay r)) (armed G) 0 done.step.sends ++ six_made u done.step.six) its_input))
            (each_made IsVain r (armed G) 0 done.step.sends (six_made (from_six z) done.step.six) (all_such hushed refl) tt);
        stays = record {
          untrusted = at_same_moment Untrusted G p k (with_entry (journal k G) done) to_relay.did.moment to_relay.did.later
              (ap (λ (d : Ip6). is_some (known (relay_mentions (done ∷ j)) (now G) d).trusted) (sym to_own) ∙ asked.untrusted);
          closed = still_closed hushed refl;
          way = way_still lab c own G p (record { follows = g.0; calm = to_relay.calm; moment = to_relay.did.moment }) unheard.way;
        };
        native = another p k m to_relay.did.node (relay_native the);
        client = λ x b. another p k n to_relay.did.node (relay_client the) b.node;
      }

    -- AT THE CLIENT'S SERVER

    module _ (may : hushed ≡ false) (is : y ≡ udp r.at (server_ep row.primary) (bubble_bytes r.six own)) where
      to_its_server : Arrival lab G p c.server (server row) (udp r.at (server_ep row.primary) (bubble_bytes r.six own))
      to_its_server = arrival lab G p serial delivery (record {
        number = c.server;
        node = server row;
        item = udp r.at (server_ep row.primary) (bubble_bytes r.six own);
        at = at ∙ ap (λ (u : Item). Some u) is;
        goes = to_server lab are.rules G c.server row r.at (bubble_bytes r.six own) server_is;
      })

      pub at_its_server : Ends G p
      at_its_server =
          let d = to_its_server.did in
          record {
            made = subst (λ (ms : List Made). AllByRecursion IsVain (filter_map item_in ms)) (sym (at_server.passes_on (record {
              lab = lab;
              a = c_side the;
              end = end the;
              peer = r.six;
              from = r.at;
              may = may_tell the;
            }) G p
                (server_ep row.primary) d sound))
                (told may refl, tt);
            stays = still_unheard G p (record { follows = g.0; calm = to_its_server.calm; moment = d.moment }) c.server d.node
                (server_relay the) (server_client the) unheard;
            native = another p c.server m d.node (server_native the);
            client = λ x b. another p c.server n d.node (server_client the) b.node;
          }

    -- AT THE CLIENT

    module _ (may : hushed ≡ false) (is : y ≡ udp (server_ep row.primary) (embedded own) (forwarded (Some r.at) (bubble_bytes r.six own))) where
      abbrev z : List ℕ
      z = forwarded (Some r.at) (bubble_bytes r.six own)

      abbrev v : Value
      v = value_written None (Some r.at) (bubble_of r.six own)

      abbrev setup : Settings
      setup = client_settings lab.topology c

      to_the_client : Arrival lab G p n (client c) (udp (server_ep row.primary) (embedded own) z)
      to_the_client = arrival lab G p serial delivery (record {
        number = n;
        node = client c;
        item = udp (server_ep row.primary) (embedded own) z;
        at = at ∙ ap (λ (u : Item). Some u) is;
        goes = to_client lab are.rules G n z are.client_is
            (is_let_in lab G (now G) (server_ep row.primary) (embedded own) n c are.rules are.chained there
            (enters_along lab G g.1 (server_ep row.primary) (nats_of lab c) c.inside (embedded own)
            (its_way the G unheard.way)));
      })

      reads : ReadsPayload v z
      reads =
          let bubble = at_server.reads (record {
            lab = lab;
            a = c_side the;
            end = end the;
            peer = r.six;
            from = r.at;
            may = may_tell the;
          }) in
          forwarded_reads_back (bubble_bytes r.six own) _ (Some r.at) bubble.bytes bubble.payload.read (bubble_small r.six own)
          (relay_keeps the).at

      abbrev got : Entry
      got = client_in setup (journal n G) (now G) (server_ep row.primary) z (words lab n G)

      quiet : IsDeaf (journal n G) (now G) r.six got
      quiet = deaf (record {
        s = setup;
        j = journal n G;
        n = now G;
        from = server_ep row.primary;
        x = z;
        v = v;
        reads = reads;
        server = from_its_server the;
        no_advert = ap is_advert (bubble_message r.six own);
        closed = subst (λ (b : Bool). ClosedBy b G) may unheard.closed;
      }) (words lab n G)

      pub at_client : Ends G p
      at_client =
          let d = to_the_client.did in
          record {
            made = subst (λ (ms : List Made). AllByRecursion IsVain (filter_map item_in ms)) (sym (d.made
                ∙ ap (λ (us : List Send). (by_way lab G (now G) (way_out lab.chain c.nat) c.inside (armed G) 0 [] us).made) quiet.sends)) tt;
            stays = record {
              untrusted = stays_at lab k Untrusted G p n d.moment d.node (client_relay the) unheard.untrusted;
              closed = subst (λ (b : Bool). ClosedBy b (p ∷ G)) (sym may)
                  (at_same_moment ClientClosed G p n (with_entry (journal n G) got) d.moment d.later quiet.closed);
              way = way_still lab c own G p (record { follows = g.0; calm = to_the_client.calm; moment = d.moment }) unheard.way;
            };
            native = another p n m d.node (client_native the);
            client = λ x. brings_nothing p n x (d.handed ∙ ap (λ (o : Option Span). option_and_then (part_of got.input) o) quiet.handed) (d.late ∙ quiet.late);
          }

    pub step : IsVain y → Ends G p
    step (for_client z is to_own) = at_relay z is to_own
    step (asking may is) = at_its_server may is
    step (told may is) = at_client may is

  -- so after a record that makes such entries no delivery brings anything to the client's host
  abbrev pub NoneComeToClient : Full → List ℕ → Type 0
  NoneComeToClient q x = (later : List Full) → Grown lab (later ++ q ∷ H) → AreFresh q later → SomeBrings n (client c) x later → ⊥

  pub none_come_to_client : (q : Full) (x : List ℕ) → q.first ≡ length (wire H) → AllByRecursion IsVain (items_of q) → IsUnheard (q ∷ H)
      → NoneComeToClient q x
  none_come_to_client q x number all first = none_brings lab H q n (client c) x IsVain IsUnheard
      (λ this sound is shut. of (step this sound shut is)) number all first where
        of : {G : List Full} {p : Full} → Ends G p → Goes lab H q n (client c) x IsVain IsUnheard G p
        of ends = record { made = ends.made; stays = ends.stays; silent = ends.client x }
