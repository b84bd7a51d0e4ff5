-- After a client handed over what it held of a native host: what it sent to the host by its relay, and the replies to that. No delivery of these brings
-- a packet that is no echo reply to the client's host.
use Rattle.theory_reaching.proofs.Words.{AllByRecursion, Arrival, Bool, Contains, Delivery, Entry, Full, GivesToHost, HEADER, HasNoFault, Input, Ip6, IsAsked, IsBytes, IsCalmNext, IsMadeItem, IsOpen, IsOwnTo, IsTrio, Item, Lab, List, Made, NativeNode, None, Option, PACKET_MAX, ReadsPayload, RelayNode, RelaySettings, Send, Settings, Some, Span, Trio, TrustsClient, TrustsClientAt, TrustsHost, TrustsHostAt, [], ap, arith, armed, arrival, arrived, at_same_moment, by_way, client, client_in, client_settings, cond, deliveries, each_so, embedded, enters_along, entry_input, false, false≢true, fields_in, filter_map, from_no_server, from_six, inl, inr, is_big, is_echo_reply, is_from_server, is_let_in, is_native_node, is_packet, is_relay_node, is_some, is_teredo, is_trusted_at, item_in, items_of, journal, known, length, mentions, message_in, nat_lt, nat_tests, native, native_in, native_made, nats_of, no_ep, no_secondary, node_is_reached, now, option_and_then, outright, own_ep, packet_is_bytes, packet_is_payload, packet_is_spelled, part_of, read_as, refl, relay, relay_in, relay_journals, relay_mentions, relay_passes, relay_settings, relay_six, rest_of, same_ip6, same_ip6-self, six, six_made, slice_get, still_in, subst, sym, take_rest, to_client, true, two_kinds, udp, unwrap_or, value_written, way_out, wire, wire_is_made, with_entry, words, ℕ, ◌++◌, ◌+◌, ◌<◌, ◌∙◌, ◌∷◌, ◌≡◌, ◌≤◌, ◌⊎◌}
use Rattle.theory_first_natives.proofs.from_native.Trio.{native_keeps, no_primary}
use Rattle.theory_first_natives.proofs.to_native.ToAnswer as answers
use Rattle.theory_reaching.proofs.entries.RelayLets.{GivesOn, gives_on, trust_stays}
use Rattle.theory_reaching.proofs.entries.TestRelayed.{RelaysIt, relays_it}
use Rattle.theory_reaching.proofs.entries.TrustedHost.{StaysTrusted, stays_trusted}
use Rattle.theory_reaching.proofs.relays.RelayMade.{each_made}
use Rattle.theory_reaching.proofs.schedules.OtherRecords.{another, stays_at}
use Rattle.theory_reaching.proofs.schedules.Throughout.{Goes, one_of, OneDelivery}
use Rattle.theory_reaching.proofs.to_native.Unanswered.{brings_nothing}
use Rattle.theory_reaching.proofs.waiting.TrustedIsIdle.{trusted_is_idle}

-- a packet of the native for the client, which is an echo reply
pub record IsEcho (host own : Ip6) (z : List ℕ) : Type 0 where
  pub packet : is_packet z ≡ true
  pub source : (fields_in z).src ≡ host
  pub destination : (fields_in z).dst ≡ own
  pub reply : is_echo_reply (message_in (fields_in z)) ≡ true

-- a packet that isn't big has no more than 1,280 bytes
short_packet : (w : List ℕ) → IsBytes w → is_packet w ≡ true → is_big (fields_in w) ≡ false → length w ≤ PACKET_MAX
unfolding is_big
short_packet w bytes one small =
    let spelled = packet_is_spelled w bytes one in
    let long : length w ≡ HEADER + length (fields_in w).body = ap (λ (z : List ℕ). length z) spelled.1 ∙ (packet_is_bytes (fields_in w) spelled.0).long in
    fits (length w) (length (fields_in w).body) long small where
      fits : (n k : ℕ) → n ≡ HEADER + k → nat_lt PACKET_MAX (40 + k) ≡ false → n ≤ PACKET_MAX
      fits n k long e = grind (arith, nat_tests, long, e)

-- the packet is no echo reply
abbrev pub NoReply : Trio → Type 0
NoReply p = is_echo_reply (message_in (fields_in p.x)) ≡ false

module _ (p : Trio) (is : IsTrio p) (no_reply : NoReply p) where
  abbrev lab : Lab
  lab = p.lab

  abbrev own : Ip6
  own = p.a.own

  abbrev h : NativeNode
  h = p.h

  abbrev r : RelayNode
  r = p.r

  -- the client's packet to the relay, and on the IPv6 side; the reply at the relay, and to the client
  pub data IsAfter (y : Item) : Type 0 where
    to_relay : (w : List ℕ) → IsOwnTo (Some own) (Some h.six) w → y ≡ udp (embedded own) r.at w → IsAfter y
    to_host : (w : List ℕ) → IsOwnTo (Some own) (Some h.six) w → y ≡ six None w → IsAfter y
    replied : (z : List ℕ) → IsEcho h.six own z → y ≡ six (Some p.k) z → IsAfter y
    to_client_itself : (z : List ℕ) → IsEcho h.six own z → y ≡ udp r.at (embedded own) z → IsAfter y

  -- client and relay trust the native and the client, and what the relay sends is let in
  pub record TrustEachOther (G : List Full) : Type 0 where
    pub relay_trusts : TrustsClient p G
    pub client_trusts : TrustsHost p G
    pub opened : IsOpen p G

  own_source : (w : List ℕ) → IsOwnTo (Some own) (Some h.six) w → (fields_in w).src ≡ own
  own_source w to = ap (λ (o : Option Ip6). unwrap_or o own) (sym to.source)

  its_destination : (w : List ℕ) → IsOwnTo (Some own) (Some h.six) w → (fields_in w).dst ≡ h.six
  its_destination w to = ap (λ (o : Option Ip6). unwrap_or o h.six) (sym to.destination)

  -- THE NODES

  relay_client : p.k ≡ p.a.n → ⊥
  relay_client = two_kinds lab.topology {i = p.k} {j = p.a.n} is_relay_node is.relay_there is.end.there refl refl

  native_client : p.m ≡ p.a.n → ⊥
  native_client = two_kinds lab.topology {i = p.m} {j = p.a.n} is_native_node is.native_there is.end.there refl refl

  native_relay : p.m ≡ p.k → ⊥
  native_relay = two_kinds lab.topology {i = p.m} {j = p.k} is_native_node is.native_there is.relay_there refl refl

  -- A DELIVERY

  -- a delivery by which nothing came, while client and relay trust each other
  pub record TrustingDelivery : Type 0 where
    pub H : List Full
    pub t : Full
    pub this : OneDelivery lab
    pub sound : HasNoFault this.p
    pub up : TrustEachOther this.G

  module _ (trusting : TrustingDelivery) where
    open trusting use {H, t, this, sound, up}
    open this use {G, serial, y, g, delivered, at}

    abbrev q : Full
    q = this.p

    abbrev Result : Type 0
    Result = Goes lab H t p.a.n (client p.a.c) p.x IsAfter TrustEachOther G q

    abbrev delivery : Delivery lab G q serial
    delivery = deliveries lab G q serial g delivered

    abbrev s : RelaySettings
    s = relay_settings lab.topology p.k r

    abbrev j : List Entry
    j = (journal p.k G).entries

    there : {u : Item} → y ≡ u → slice_get (wire G) serial ≡ Some u
    there same = at ∙ ap (λ (z : Item). Some z) same

    made_item : (u : Item) → y ≡ u → IsMadeItem u
    made_item u same = one_of IsMadeItem (wire G) serial u (there same) (wire_is_made lab G is.rules g.1).wire

    still_open : IsCalmNext lab G q → IsOpen p (q ∷ G)
    still_open next = still_in G next r.at (nats_of lab p.a.c) p.a.c.inside (embedded own) up.opened

    -- A PACKET OF THE CLIENT, AT THE RELAY

    module _ (w : List ℕ) (to : IsOwnTo (Some own) (Some h.six) w) (same : y ≡ udp (embedded own) r.at w) where
      at_relay : Arrival lab G q p.k (relay r) (udp (embedded own) r.at w)
      at_relay = arrival lab G q serial delivery (record {
        number = p.k;
        node = relay r;
        item = udp (embedded own) r.at w;
        at = there same;
        goes = node_is_reached lab G (now G) (udp (embedded own) r.at w) p.k (relay r) is.rules is.relay_there refl;
      })

      relay_reads : ReadsPayload (value_written None None (fields_in w)) w
      relay_reads =
          let made = made_item (udp (embedded own) r.at w) same in
          packet_is_payload w (fields_in w) made.bytes made.short (read_as w to.well_formed)

      abbrev passed : Entry
      passed = relay_in s j (now G) (embedded own) w

      idle : (known (relay_mentions j) (now G) own).waiting ≡ []
      idle = trusted_is_idle s own j (now G) (relay_journals lab G p.k r g.1 is.relay_there).journal up.relay_trusts

      gives : GivesOn s j (now G) (embedded own) w (value_written None None (fields_in w)) relay_reads passed
      gives = gives_on s j (now G) (embedded own) w (value_written None None (fields_in w)) relay_reads
          (ap (λ (z : Ip6). (known (relay_mentions j) (now G) z).waiting) (own_source w to) ∙ idle)

      made_there : AllByRecursion IsAfter (items_of q)
      made_there = by gives.six where
        by : (passed.step.six ≡ None) ⊎ (passed.step.six ≡ Some (rest_of 0 w)) → AllByRecursion IsAfter (filter_map item_in q.made)
        by (inl none) = subst (λ (ms : List Made). AllByRecursion IsAfter (filter_map item_in ms)) (sym (at_relay.did.made
            ∙ ap (λ (us : List Send). outright (own_ep (relay r)) (armed G) 0 us ++ six_made passed.input passed.step.six) gives.sends
            ∙ ap (λ (i : Input). six_made i passed.step.six) gives.input
            ∙ ap (λ (o : Option Span). six_made (arrived (embedded own) w) o) none)) tt
        by (inr six_is) = subst (λ (ms : List Made). AllByRecursion IsAfter (filter_map item_in ms)) (sym (
            relay_passes at_relay.did sound (embedded own) w gives.sends six_is gives.input)) (to_host w to refl, tt)

      at_its_relay : Result
      at_its_relay = record {
        made = made_there;
        stays = record {
          relay_trusts = at_same_moment (TrustsClientAt p) G q p.k (with_entry (journal p.k G) passed) at_relay.did.moment at_relay.did.later
              (trust_stays passed j (now G) own gives.moment up.relay_trusts);
          client_trusts = stays_at lab p.a.n (TrustsHostAt p) G q p.k at_relay.did.moment at_relay.did.node relay_client up.client_trusts;
          opened = still_open (record { follows = g.0; calm = at_relay.calm; moment = at_relay.did.moment });
        };
        silent = λ b. another q p.k p.a.n at_relay.did.node relay_client b.node;
      }

    -- AT THE NATIVE

    module _ (w : List ℕ) (to : IsOwnTo (Some own) (Some h.six) w) (same : y ≡ six None w) where
      at_native : Arrival lab G q p.m (native h) (six None w)
      at_native = arrival lab G q serial delivery (record {
        number = p.m;
        node = native h;
        item = six None w;
        at = there same;
        goes = node_is_reached lab G (now G) (six None w) p.m (native h) is.rules is.native_there (record {
          packet = to.well_formed;
          destination = ap (λ (z : Ip6). same_ip6 z h.six) (its_destination w to) ∙ same_ip6-self h.six;
        });
      })

      asked : IsAsked own h.six w
      asked =
          let made = made_item (six None w) same in
          record {
            own_is = is.end.address.of.sixteen;
            host_is = (native_keeps p is).six;
            goes = record {
              packet = to.well_formed;
              short = short_packet w made.bytes to.well_formed to.short;
              no_bubble = to.no_bubble;
              source = own_source w to;
              destination = its_destination w to;
            };
            bytes = made.bytes;
            small = to.short;
          }

      answered : (o : Option (List ℕ)) → (native_in w).packet ≡ o → AllByRecursion IsAfter (filter_map item_in (native_made h o))
      answered None e = tt
      answered (Some z) e =
          let goes = answers.answer_goes own h.six w z asked e in
          let teredo : is_teredo (fields_in z).dst ≡ true = ap is_teredo goes.destination ∙ is.end.address.of.teredo in
          subst (λ (b : Bool). AllByRecursion IsAfter (six (cond b (Some h.relay) None) z ∷ [])) (sym teredo) (
            replied z (record {
              packet = goes.packet;
              source = goes.source;
              destination = goes.destination;
              reply = answers.answer_replies own h.six w z asked e;
            }) (ap (λ (k : ℕ). six (Some k) z) is.through),
            tt,
          )

      at_its_native : Result
      at_its_native = record {
        made = subst (λ (ms : List Made). AllByRecursion IsAfter (filter_map item_in ms)) (sym at_native.did.made) (answered (native_in w).packet refl);
        stays = record {
          relay_trusts = stays_at lab p.k (TrustsClientAt p) G q p.m at_native.did.moment at_native.did.node native_relay up.relay_trusts;
          client_trusts = stays_at lab p.a.n (TrustsHostAt p) G q p.m at_native.did.moment at_native.did.node native_client up.client_trusts;
          opened = still_open (record { follows = g.0; calm = at_native.calm; moment = at_native.did.moment });
        };
        silent = λ b. another q p.m p.a.n at_native.did.node native_client b.node;
      }

    -- THE REPLY, AT THE RELAY

    module _ (z : List ℕ) (echo : IsEcho h.six own z) (same : y ≡ six (Some p.k) z) where
      reply_comes : Arrival lab G q p.k (relay r) (six (Some p.k) z)
      reply_comes = arrival lab G q serial delivery (record {
        number = p.k;
        node = relay r;
        item = six (Some p.k) z;
        at = there same;
        goes = node_is_reached lab G (now G) (six (Some p.k) z) p.k (relay r) is.rules is.relay_there refl;
      })

      abbrev sent_on : Entry
      sent_on = relay_six s j (now G) z

      relays : RelaysIt j (now G) z sent_on
      relays = relays_it s j (now G) z echo.packet
          (ap (λ (d : Ip6). is_some (known (relay_mentions j) (now G) d).trusted) echo.destination ∙ up.relay_trusts)

      its_input : sent_on.input ≡ from_six z
      its_input = entry_input lab G (now G) p.k no_ep (from_six z) (relay r)

      reply_at_relay : Result
      reply_at_relay = record {
        made = subst (λ (ms : List Made). AllByRecursion IsAfter (filter_map item_in ms)) (sym (reply_comes.did.made
            ∙ ap (λ (u : Input). outright (own_ep (relay r)) (armed G) 0 sent_on.step.sends ++ six_made u sent_on.step.six) its_input))
            (each_made IsAfter r (armed G) 0 sent_on.step.sends (six_made (from_six z) sent_on.step.six)
            (each_so (λ u is_it. to_client_itself z echo (ap (λ (v : Send). udp r.at v.to v.bytes) is_it
            ∙ ap (λ (d : Ip6). udp r.at (embedded d) z) echo.destination)) sent_on.step.sends relays.sends) tt);
        stays = record {
          relay_trusts = at_same_moment (TrustsClientAt p) G q p.k (with_entry (journal p.k G) sent_on) reply_comes.did.moment reply_comes.did.later
              (ap (λ (d : Ip6). is_some (known (relay_mentions (sent_on ∷ j)) (now G) d).trusted) (sym echo.destination) ∙ relays.trusts);
          client_trusts = stays_at lab p.a.n (TrustsHostAt p) G q p.k reply_comes.did.moment reply_comes.did.node relay_client up.client_trusts;
          opened = still_open (record { follows = g.0; calm = reply_comes.calm; moment = reply_comes.did.moment });
        };
        silent = λ b. another q p.k p.a.n reply_comes.did.node relay_client b.node;
      }

    -- AT THE CLIENT

    module _ (z : List ℕ) (echo : IsEcho h.six own z) (same : y ≡ udp r.at (embedded own) z) where
      at_client : Arrival lab G q p.a.n (client p.a.c) (udp r.at (embedded own) z)
      at_client = arrival lab G q serial delivery (record {
        number = p.a.n;
        node = client p.a.c;
        item = udp r.at (embedded own) z;
        at = there same;
        goes = to_client lab is.rules G p.a.n z is.end.there
            (is_let_in lab G (now G) r.at (embedded own) p.a.n p.a.c is.rules is.chained is.client_there
            (enters_along lab G g.1 r.at (nats_of lab p.a.c) p.a.c.inside (embedded own) up.opened));
      })

      client_reads : ReadsPayload (value_written None None (fields_in z)) z
      client_reads =
          let made = made_item (udp r.at (embedded own) z) same in packet_is_payload z (fields_in z) made.bytes made.short (read_as z echo.packet)

      abbrev us : Settings
      us = client_settings lab.topology p.a.c

      abbrev got : Entry
      got = client_in us (journal p.a.n G) (now G) r.at z (words lab p.a.n G)

      no_server : is_from_server us r.at ≡ false
      no_server = from_no_server lab p.a is.end r.at (no_primary p is) (no_secondary p is)

      trusted : is_trusted_at r.at (known (mentions (journal p.a.n G).entries) (now G) (fields_in z).src) ≡ true
      trusted = ap (λ (d : Ip6). is_trusted_at r.at (known (mentions (journal p.a.n G).entries) (now G) d)) echo.source ∙ up.client_trusts.trusted

      none : (known (mentions (journal p.a.n G).entries) (now G) (fields_in z).src).waiting ≡ []
      none = ap (λ (d : Ip6). (known (mentions (journal p.a.n G).entries) (now G) d).waiting) echo.source ∙ up.client_trusts.nothing_waits

      stays : StaysTrusted (record { s = us; j = journal p.a.n G; n = now G; from = r.at; x = z; v = value_written None None (fields_in z); reads = client_reads; no_server = no_server; trusts_it = trusted; none = none }) got
      stays = stays_trusted (record { s = us; j = journal p.a.n G; n = now G; from = r.at; x = z; v = value_written None None (fields_in z); reads = client_reads; no_server = no_server; trusts_it = trusted; none = none })
          (words lab p.a.n G)

      -- what it hands over is the reply
      no_packet : z ≡ p.x → ⊥
      no_packet e = false≢true (sym no_reply ∙ ap (λ (u : List ℕ). is_echo_reply (message_in (fields_in u))) (sym e) ∙ echo.reply)

      silent_there : GivesToHost p.a.n p.x q → ⊥
      silent_there = by stays.handed where
        by : (got.step.handed ≡ None) ⊎ (got.step.handed ≡ Some (rest_of 0 z)) → GivesToHost p.a.n p.x q → ⊥
        by (inl nothing) = brings_nothing q p.a.n p.x (at_client.did.handed ∙ ap (λ (o : Option Span). option_and_then (part_of got.input) o) nothing)
            (at_client.did.late ∙ stays.late)
        by (inr over) = λ gives. of gives.packet where
          handed_is : q.handed ≡ Some z
          handed_is = at_client.did.handed ∙ ap (λ (o : Option Span). option_and_then (part_of got.input) o) over
              ∙ ap (λ (i : Input). option_and_then (part_of i) (Some (rest_of 0 z))) stays.input
              ∙ ap (λ (u : List ℕ). Some u) (take_rest z 0)

          of : (q.handed ≡ Some p.x) ⊎ Contains q.late p.x → ⊥
          of (inl one) = no_packet (ap (λ (o : Option (List ℕ)). unwrap_or o z) (sym handed_is ∙ one))
          of (inr one) = let within = (subst (λ (xs : List (List ℕ)). Contains xs p.x) (at_client.did.late ∙ stays.late) one).1 in
              absurd (let beyond : (subst (λ (xs : List (List ℕ)). Contains xs p.x) (at_client.did.late ∙ stays.late) one).0 < 0 = within in omega (arith, beyond))

      at_its_client : Result
      at_its_client = record {
        made = subst (λ (ms : List Made). AllByRecursion IsAfter (filter_map item_in ms)) (sym (at_client.did.made
            ∙ ap (λ (vs : List Send). (by_way lab G (now G) (way_out lab.chain p.a.c.nat) p.a.c.inside (armed G) 0 [] vs).made) stays.sends)) tt;
        stays = record {
          relay_trusts = stays_at lab p.k (TrustsClientAt p) G q p.a.n at_client.did.moment at_client.did.node (λ e. relay_client (sym e)) up.relay_trusts;
          client_trusts = at_same_moment (TrustsHostAt p) G q p.a.n (with_entry (journal p.a.n G) got) at_client.did.moment at_client.did.later (record {
            trusted = ap (λ (d : Ip6). is_trusted_at r.at (known (mentions (got ∷ (journal p.a.n G).entries)) (now G) d)) (sym echo.source) ∙ stays.trusted;
            nothing_waits = ap (λ (d : Ip6). (known (mentions (got ∷ (journal p.a.n G).entries)) (now G) d).waiting) (sym echo.source) ∙ stays.nothing_waits;
          });
          opened = still_open (record { follows = g.0; calm = at_client.calm; moment = at_client.did.moment });
        };
        silent = silent_there;
      }

    pub step : IsAfter y → Result
    step (to_relay w to same) = at_its_relay w to same
    step (to_host w to same) = at_its_native w to same
    step (replied z echo same) = reply_at_relay z echo same
    step (to_client_itself z echo same) = at_its_client z echo same
