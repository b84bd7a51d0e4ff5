-- `within 2` from a native host: its relay sends the packet on, and the client's host is handed it.
use Rattle.theory_reaching.proofs.Words.{AreFresh, Arrival, ComesInTime, DATAGRAM_MAX, Full, GivesToHost, Grown, HasNoFault, Ip6, IsFromTrusted, IsHere, Journal, List, Some, WayIn, address_at, ap, arith, arrival, as_client, at_same_moment, client, client_settings, deliveries, embedded, enters_along, false, false_from_ne_true, false≢true, fields_in, filter_map, handed_at_once, inl, is_let_in, is_teredo, is_trusted_at, item_in, journal, known, length, mentions, nats_of, now, option_and_then, other_journal, packet_is_payload, read_as, same_ip6, same_ip6-true, six, slice_get, still_in, subst, suc, sym, to_client, true, udp, wire, words, ℕ, ◌++◌, ◌∙◌, ◌∷◌, ◌≡◌, ◌≤◌}
use Rattle.theory_reaching.proofs.relays.Relays.{RelayedHosts, AreRelayed}
use Rattle.theory_reaching.proofs.relays.RelayEnds.{end, here, native_keeps, no_server}
use Rattle.theory_reaching.proofs.schedules.TwoDeliveries.{second_brings}
use Rattle.theory_reaching.proofs.relays.NodesApart.{relay_client, native_client}
use Rattle.theory_reaching.proofs.from_native.FromNatives.{SentBack, did, small, bytes, number, next, makes, came, sent_on, next_too}

module _ (the : SentBack) where
  open the use {lab, H, q, n, m, c, h, r, x, back}

  abbrev are : AreRelayed lab H n m c h r
  are = back.from.are

  abbrev own : Ip6
  own = address_at lab H n

  abbrev k : ℕ
  k = h.relay

  module _ (p : Full) (g : Grown lab (p ∷ q ∷ H)) (sound : HasNoFault p) (delivered : p.delivered ≡ Some q.first)
      (at : slice_get (wire (q ∷ H)) q.first ≡ Some (six (Some k) x)) where
    abbrev G : List Full
    G = q ∷ H

    abbrev the_three : RelayedHosts
    the_three = record { lab = lab; H = H; n = n; m = m; c = c; h = h; r = r; are = back.from.are }

    -- the client did nothing so far
    client_stays : (P : Journal → ℕ → Type 0) → P (journal n H) (now H) → P (journal n (p ∷ G)) (now (p ∷ G))
    client_stays P holds =
        let first = did the in
        let second = (came the p g sound delivered at).did in
        at_same_moment P G p n (journal n G) second.moment
        (other_journal lab G p k n second.node (relay_client the_three))
        (at_same_moment P H q n (journal n H) first.moment
        (other_journal lab H q m n first.node (native_client the_three)) holds)

    -- AT THE CLIENT

    -- the relay's datagram is delivered, and the client is reached and trusts it
    pub record SecondDelivery : Type 0 where
      pub s : Full
      pub grown : Grown lab (s ∷ p ∷ G)
      pub again : s.delivered ≡ Some (suc q.first)
      pub to : slice_get (wire (p ∷ G)) (suc q.first) ≡ Some (udp r.at (embedded own) x)
      pub way : WayIn lab H r.at (nats_of lab c) c.inside (embedded own)
      pub trusted : is_trusted_at r.at (known (mentions (journal n H).entries) (now H) h.six) ≡ true

    module _ (second_delivery : SecondDelivery) where
      open second_delivery use {s, grown, again, to, way, trusted}

      abbrev F : List Full
      F = p ∷ G

      way_then : WayIn lab F r.at (nats_of lab c) c.inside (embedded own)
      way_then = still_in G (next_too the p g sound delivered at) r.at (nats_of lab c) c.inside (embedded own)
          (still_in H (next the) r.at (nats_of lab c) c.inside (embedded own) way)

      comes : Arrival lab F s n (client c) (udp r.at (embedded own) x)
      comes = arrival lab F s (suc q.first) (deliveries lab F s (suc q.first) grown again) (record {
        number = n;
        node = client c;
        item = udp r.at (embedded own) x;
        at = to;
        goes = to_client lab are.rules F n x are.client_is
            (is_let_in lab F (now F) r.at (embedded own) n c are.rules are.chained (ap (option_and_then as_client) are.client_is)
            (enters_along lab F grown.1 r.at (nats_of lab c) c.inside (embedded own) way_then));
      })

      fits : (i : ℕ) → i ≤ 1280 → i ≤ DATAGRAM_MAX
      fits i e = omega (arith, e)

      -- a native's address isn't Teredo, and the client's is
      another : same_ip6 h.six own ≡ false
      another = false_from_ne_true (same_ip6 h.six own) (λ e. false≢true (sym (native_keeps (record { lab = lab; H = H; n = n; m = m; c = c; h = h; r = r; are = are })).outside.other
          ∙ ap is_teredo (same_ip6-true h.six own e) ∙ (end (record { lab = lab; H = H; n = n; m = m; c = c; h = h; r = r; are = are })).address.of.teredo))

      from_trusted : IsFromTrusted (client_settings lab.topology c) (journal n F) (now F) r.at x
      from_trusted =
          let src = back.from.handed.packet.source in
          let dst = back.from.handed.packet.destination in
          record {
            here = subst (λ (z : Ip6). IsHere (client_settings lab.topology c) (journal n F) z) (sym dst)
                (client_stays (λ (j : Journal) (t : ℕ). IsHere (client_settings lab.topology c) j own) (here (record { lab = lab; H = H; n = n; m = m; c = c; h = h; r = r; are = are })));
            reads = packet_is_payload x (fields_in x) (bytes the)
                (fits (length x) back.from.handed.packet.short) (read_as x back.from.handed.packet.packet);
            short = small the;
            plain = back.from.handed.packet.no_bubble;
            no_server = no_server (record { lab = lab; H = H; n = n; m = m; c = c; h = h; r = r; are = are });
            another = ap (λ (z : Ip6). same_ip6 z (fields_in x).dst) src ∙ ap (same_ip6 h.six) dst ∙ another;
            trusted = ap (λ (z : Ip6). is_trusted_at r.at (known (mentions (journal n F).entries) (now F) z)) src
                ∙ client_stays (λ (j : Journal) (t : ℕ). is_trusted_at r.at (known (mentions j.entries) t h.six) ≡ true) trusted;
          }

      pub hands_it : GivesToHost n x s
      hands_it = record {
        node = comes.did.node;
        packet = inl (comes.did.handed ∙ handed_at_once (client_settings lab.topology c) (journal n F) (now F) r.at x from_trusted (words lab n F));
      }

  -- so the second delivery hands it over, where it is let in and the client trusts the host there
  pub in_time : WayIn lab H r.at (nats_of lab c) c.inside (embedded own)
      → is_trusted_at r.at (known (mentions (journal n H).entries) (now H) h.six) ≡ true → (later : List Full) → Grown lab (later ++ q ∷ H)
      → AreFresh q later → ComesInTime H q n (client c) x later 2
  in_time way trusted = second_brings (record {
    lab = lab;
    H = H;
    q = q;
    one = six (Some k) x;
    two = udp r.at (embedded own) x;
    number = number the;
    makes = makes the;
    goes_on = λ p g sound delivered at. ap (filter_map item_in) (sent_on the p g sound delivered at);
  }) n (client c) x
      (λ s p grown sound delivered at again to. hands_it p grown.1 sound delivered at (record { s = s; grown = grown; again = again; to = to; way = way; trusted = trusted }))
