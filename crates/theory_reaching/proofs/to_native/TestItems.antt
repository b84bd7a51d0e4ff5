-- What each delivery on the way of a client's test makes: at the client's server, and at the host.
use Rattle.theory_reaching.proofs.Words.{AllByRecursion, Arrival, Delivery, Fields, Full, Ip6, IsIp6, IsMadeItem, Item, List, Made, None, ReadsPayload, ServerNode, Some, Step, [], address_at, ap, armed, arrival, arrived, deliveries, embedded, fields_in, filter_map, is_teredo, item_in, native, native_answers, native_echoes, node_is_reached, nonce_from, now, outright, own_ep, packet_bytes, packet_is_payload, reaches, refl, reply_fields, route, same_ip6, same_ip6-self, sent, server, server_ep, side_at, six, six_made, subst, sym, take_rest, test_reads, to_server, udp, value_written, wire, wire_is_made, words, ℕ, ◌++◌, ◌∙◌, ◌∷◌, ◌≡◌}
use Rattle.theory_first_natives.proofs.tables.NativeReads as echoes
use Rattle.theory_reaching.proofs.relays.RelayEnds.{end, native_keeps}
use Rattle.theory_reaching.proofs.to_native.TestPassed.{gives}
use Rattle.theory_reaching.proofs.to_native.TestsOut.{AskingHost, IsTestItem, tested, answering, server_row, test, teredo}
use Rattle.theory_reaching.proofs.schedules.Throughout.{one_of, OneDelivery}
use Rattle.theory_reaching.proofs.relays.Relays.{RelayedHosts}

module _ (the : AskingHost) where
  open the use {lab, H, q, n, m, c, h, r, x, asks}

  abbrev own : Ip6
  own = address_at lab H n

  abbrev IsIt : Item → Type 0
  IsIt = IsTestItem the

  abbrev AreIt : List Made → Type 0
  AreIt ms = AllByRecursion IsIt (filter_map item_in ms)

  abbrev its_test : List ℕ
  its_test = test the

  abbrev row : ServerNode
  row = server_row the

  abbrev pub nonce : ℕ
  nonce = nonce_from (words lab n H)

  abbrev the_three : RelayedHosts
  the_three = record { lab = lab; H = H; n = n; m = m; c = c; h = h; r = r; are = asks.are }

  pub sixteen : IsIp6 own
  sixteen = (end the_three).address.of.sixteen

  pub host_sixteen : IsIp6 h.six
  host_sixteen = (native_keeps the_three).six

  abbrev test_fields : Fields
  test_fields = echoes.test own h.six sixteen host_sixteen nonce

  -- on the IPv6 side the test leads to the host
  pub goes_to_host : (G : List Full) → route lab G (now G) (six None its_test) ≡ reaches m (native h)
  goes_to_host G =
      let read = test_reads own h.six sixteen host_sixteen nonce in
      node_is_reached lab G (now G) (six None its_test) m (native h) asks.are.rules asks.are.host_is (record {
        packet = read.is_one;
        destination = ap (λ (f : Fields). same_ip6 f.dst h.six) read.fields ∙ same_ip6-self h.six;
      })

  module _ (this : OneDelivery lab) where
    open this use {G, p, serial, y, g, delivered, at}

    abbrev delivery : Delivery lab G p serial
    delivery = deliveries lab G p serial g delivered

    -- AT THE CLIENT'S SERVER

    module _ (is : y ≡ udp (embedded own) (server_ep row.primary) its_test) where
      pub to_its_server : Arrival lab G p c.server (server row) (udp (embedded own) (server_ep row.primary) its_test)
      to_its_server = arrival lab G p serial delivery (record {
        number = c.server;
        node = server row;
        item = udp (embedded own) (server_ep row.primary) its_test;
        at = at ∙ ap (λ (z : Item). Some z) is;
        goes = to_server lab asks.are.rules G c.server row (embedded own) its_test
            (end the_three).server_is;
      })

      made_item : IsMadeItem (udp (embedded own) (server_ep row.primary) its_test)
      made_item = one_of IsMadeItem (wire G) serial (udp (embedded own) (server_ep row.primary) its_test) (at ∙ ap (λ (z : Item). Some z) is)
          (wire_is_made lab G asks.are.rules g.1).wire

      reads : ReadsPayload (value_written None None test_fields) its_test
      reads = packet_is_payload its_test test_fields made_item.bytes made_item.short (test_reads own h.six sixteen host_sixteen nonce).read

      abbrev made_by : Step → List Made
      made_by z = outright (own_ep (server row)) (armed G) 0 z.sends ++ six_made (arrived (embedded own) its_test) z.six

      -- it makes the test on the IPv6 side
      pub made_by_server : p.made ≡ sent (six None its_test) ∷ []
      made_by_server = to_its_server.did.made
          ∙ ap made_by (gives the
          (side_at (server row) (server_ep row.primary)) reads)
          ∙ ap (λ (u : List ℕ). sent (six None u) ∷ []) (take_rest its_test 0)

      -- so each entry that it makes is such as that
      pub passed_on : (P : Item → Type 0) → P (six None its_test) → AllByRecursion P (filter_map item_in p.made)
      passed_on P is_it = subst (λ (ms : List Made). AllByRecursion P (filter_map item_in ms)) (sym made_by_server) (is_it, tt)

      pub made_there : AreIt p.made
      made_there = passed_on IsIt (tested refl)

    -- AT THE HOST

    module _ (is : y ≡ six None its_test) where
      pub to_host : Arrival lab G p m (native h) (six None its_test)
      to_host = arrival lab G p serial delivery (record {
        number = m;
        node = native h;
        item = six None its_test;
        at = at ∙ ap (λ (z : Item). Some z) is;
        goes = goes_to_host G;
      })

      abbrev reply : List ℕ
      reply = packet_bytes (echoes.reply own h.six sixteen host_sixteen nonce)

      goes_back : (fields_in reply).dst ≡ own
      goes_back = ap (λ (f : Fields). f.dst) (reply_fields own h.six sixteen host_sixteen nonce)

      -- each entry that it makes is such as its reply for the client is
      pub answered : (P : Item → Type 0) → ((z : List ℕ) → (fields_in z).dst ≡ own → P (six (Some h.relay) z)) → AllByRecursion P (filter_map item_in p.made)
      answered P such = subst (λ (ms : List Made). AllByRecursion P (filter_map item_in ms)) (sym (
          native_echoes (record { lab = lab; H = G; q = p; m = m; h = h; x = its_test }) to_host.did reply (native_answers own h.six sixteen host_sixteen nonce
          (end the_three).address.of.global) (ap is_teredo goes_back ∙ teredo the)))
          (such reply goes_back, tt)

      pub made_at_host : AreIt p.made
      made_at_host = answered IsIt (λ z to_own. answering z refl to_own)
