-- What the delivery of an answer to a client's test makes at the relay, which trusts the client.
use Rattle.theory_reaching.proofs.Words.{AllByRecursion, Arrival, Bool, Delivery, Entry, Input, Ip6, IsPacketItem, Item, List, Made, Option, Send, Some, [], address_at, ap, armed, arrival, deliveries, embedded, entry_input, false, fields_in, filter_map, from_six, is_at_place, is_packet, is_some, item_in, journal, known, lost, made_outright, no_ep, node_is_reached, now, outright, own_ep, refl, relay, relay_mentions, relay_settings, relay_six, send, sent, six, six_made, subst, sym, true, udp, wire, wire_is_made, ℕ, ◌++◌, ◌+◌, ◌∙◌, ◌∷◌, ◌≡◌}
use Rattle.theory_reaching.proofs.relays.RelayEnds.{relay_there}
use Rattle.theory_reaching.proofs.entries.TestRelayed.{RelaysIt, relays_it}
use Rattle.theory_reaching.proofs.to_native.TestsOut.{AskingHost, IsTestItem, returning}
use Rattle.theory_reaching.proofs.schedules.Throughout.{one_of, OneDelivery}

module _ (the : AskingHost) where
  open the use {lab, H, q, n, m, c, h, r, x, asks}

  abbrev own : Ip6
  own = address_at lab H n

  abbrev AreIt : List Made → Type 0
  AreIt ms = AllByRecursion (IsTestItem the) (filter_map item_in ms)

  module _ (this : OneDelivery lab) where
    open this use {G, p, serial, y, g, delivered, at}

    abbrev delivery : Delivery lab G p serial
    delivery = deliveries lab G p serial g delivered

    -- the native host's answer at a relay that trusts the client
    pub record AnswerToTest : Type 0 where
      pub z : List ℕ
      pub is : y ≡ six (Some h.relay) z
      pub to_own : (fields_in z).dst ≡ own
      pub trusted : is_some (known (relay_mentions (journal h.relay G).entries) (now G) own).trusted ≡ true

    module _ (answer_to_test : AnswerToTest) where
      open answer_to_test use {z, is, to_own, trusted}

      pub to_relay : Arrival lab G p h.relay (relay r) (six (Some h.relay) z)
      to_relay = arrival lab G p serial delivery (record {
        number = h.relay;
        node = relay r;
        item = six (Some h.relay) z;
        at = at ∙ ap (λ (u : Item). Some u) is;
        goes = node_is_reached lab G (now G) (six (Some h.relay) z) h.relay (relay r) asks.are.rules
            (relay_there (record { lab = lab; H = H; n = n; m = m; c = c; h = h; r = r; are = asks.are })) refl;
      })

      is_one : is_packet z ≡ true
      is_one = one_of IsPacketItem (wire G) serial (six (Some h.relay) z) (at ∙ ap (λ (u : Item). Some u) is)
          (wire_is_made lab G asks.are.rules g.1).packets

      abbrev pub done : Entry
      done = relay_six (relay_settings lab.topology h.relay r) (journal h.relay G).entries (now G) z

      relays : RelaysIt (journal h.relay G).entries (now G) z done
      relays = relays_it (relay_settings lab.topology h.relay r) (journal h.relay G).entries (now G) z is_one
          (ap (λ (u : Ip6). is_some (known (relay_mentions (journal h.relay G).entries) (now G) u).trusted) to_own ∙ trusted)

      pub still_trusted : is_some (known (relay_mentions (done ∷ (journal h.relay G).entries)) (now G) own).trusted ≡ true
      still_trusted = ap (λ (u : Ip6). is_some (known (relay_mentions (done ∷ (journal h.relay G).entries)) (now G) u).trusted) (sym to_own) ∙ relays.trusts

      one_made : (fails : Bool) (u : Send) → u ≡ send (embedded (fields_in z).dst) z → AreIt (made_outright fails (own_ep (relay r)) u ∷ [])
      one_made true u same = tt
      one_made false u same =
          (returning z (ap (λ (v : Send). udp r.at v.to v.bytes) same ∙ ap (λ (d : Ip6). udp r.at (embedded d) z) to_own), tt)

      both : (a : Made) (ms : List Made) → AreIt (a ∷ []) → AreIt ms → AreIt (a ∷ ms)
      both (sent i) ms one all = (one.0, all)
      both (lost why dst bytes) ms one all = all

      all_made : (fails : Option ℕ) (i : ℕ) (xs : List Send) → AllByRecursion (λ (u : Send). u ≡ send (embedded (fields_in z).dst) z) xs
          → AreIt (outright (own_ep (relay r)) fails i xs ++ six_made (from_six z) done.step.six)
      all_made fails i [] all = tt
      all_made fails i (u ∷ xs) all = both (made_outright (is_at_place i fails) (own_ep (relay r)) u)
          (outright (own_ep (relay r)) fails (i + 1) xs ++ six_made (from_six z) done.step.six)
          (one_made (is_at_place i fails) u all.0) (all_made fails (i + 1) xs all.1)

      its_input : done.input ≡ from_six z
      its_input = entry_input lab G (now G) h.relay no_ep (from_six z) (relay r)

      pub made_at_relay : AreIt p.made
      made_at_relay = subst AreIt (sym (to_relay.did.made
          ∙ ap (λ (i : Input). outright (own_ep (relay r)) (armed G) 0 done.step.sends ++ six_made i done.step.six) its_input))
          (all_made (armed G) 0 done.step.sends relays.sends)
