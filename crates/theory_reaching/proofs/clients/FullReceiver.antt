-- A receiver that has no room for the sender: whatever the sender's packet makes comes to nothing there.
use Rattle.theory_reaching.proofs.Words.{AllByRecursion, DATAGRAM_MAX, Ep, Ip6, IsElsewhere, Item, List, Made, None, ReadsPayload, Send, Value, [], address_at, address_is, and_left, and_right, ap, arith, bubble_bytes, bubble_message, bubble_of, bubble_reads_back, client_journals, client_settings, each_so, embedded, false, fields_in, filter_map, inl, inr, is_advert, is_from_server, is_teredo, item_in, journal, length, map, message_in, nats_of, now, own_address, packet_is_payload, qualification, read_as, refl, sent, server_elsewhere, server_ep, server_in, subst, sym, udp, value_written, words, ℕ, ◌&&◌, ◌∙◌, ◌∷◌, ◌≡◌, ◌≤◌}
use Rattle.theory_first_packets.proofs.passing.Elsewhere.{elsewhere, no_server}
use Rattle.theory_reaching.proofs.entries.Tries.{IsSentTo, all_sent_to}
use Rattle.theory_reaching.proofs.clients.BothSettled.{Both, a_side, b_side, differ, sender_end, receiver_end, sender_here, bytes, leave, e}

module _ (the : Both) where
  open the use {lab, H, q, n, m, c, d, x, are}

  abbrev own : Ip6
  own = address_at lab H n

  abbrev other : Ip6
  other = address_at lab H m

  -- what comes to the receiver with a packet of the sender, and no advertisement; or the bubble on its way to the receiver's server
  pub data IsComing (y : Item) : Type 0 where
    coming : (src : Ep) (z : List ℕ) (v : Value) → y ≡ udp src (embedded other) z → ReadsPayload v z → v.packet.src ≡ own
        → (is_from_server (client_settings lab.topology d) src && is_advert (message_in v.packet)) ≡ false → IsComing y
    asking : y ≡ udp (embedded own) (server_ep (server_in other)) (bubble_bytes own other) → IsComing y

  -- a bubble is none
  pub no_advert : (src : Ep) → (is_from_server (client_settings lab.topology d) src && is_advert (message_in (bubble_of own other))) ≡ false
  no_advert src = and_right (is_from_server (client_settings lab.topology d) src) (is_advert (message_in (bubble_of own other)))
      (ap is_advert (bubble_message own other))

  -- nor is what comes from the sender itself
  from_sender : is_from_server (client_settings lab.topology d) (embedded own) ≡ false
  from_sender = no_server (record {
    lab = lab;
    is = are.rules;
    a = b_side the;
    b = a_side the;
    an = receiver_end the;
    bn = sender_end the;
  })

  fits : (k : ℕ) → k ≤ 1280 → k ≤ DATAGRAM_MAX
  fits k h = omega (arith, h)

  abbrev Coming : Send → Type 0
  Coming s = IsComing (udp (embedded own) s.to s.bytes)

  -- each send of the sender is such
  one_coming : (s : Send) → IsSentTo own other x s → Coming s
  one_coming s (inl same) = subst Coming (sym same) (coming (embedded own) x (value_written None None (fields_in x)) refl
      (packet_is_payload x (fields_in x) (bytes the) (fits (length x) are.handed.packet.short) (read_as x are.handed.packet.packet))
      are.handed.packet.source
      (and_left (is_from_server (client_settings lab.topology d) (embedded own)) (is_advert (message_in (fields_in x))) from_sender))
  one_coming s (inr (inl same)) = subst Coming (sym same) (coming (embedded own) (bubble_bytes own other) (value_written None None (bubble_of own other)) refl
      (bubble_reads_back own other (sender_end the).address.of.sixteen
      (receiver_end the).address.of.sixteen).payload refl (no_advert (embedded own)))
  one_coming s (inr (inr same)) = subst Coming (sym same) (asking refl)

  abbrev There : Ep → Type 0
  There at = IsElsewhere lab at.ip (nats_of lab c)

  -- no NAT of the sender's way has its destination
  one_elsewhere : (s : Send) → IsSentTo own other x s → IsElsewhere lab s.to.ip (nats_of lab c)
  one_elsewhere s is = by is where
    at_other : There (embedded other)
    at_other = elsewhere (record {
      lab = lab;
      is = are.rules;
      a = a_side the;
      b = b_side the;
      an = sender_end the;
      bn = receiver_end the;
    }) (differ the)

    by : IsSentTo own other x s → There s.to
    by (inl same) = subst (λ (z : Send). There z.to) (sym same) at_other
    by (inr (inl same)) = subst (λ (z : Send). There z.to) (sym same) at_other
    by (inr (inr same)) = subst (λ (z : Send). There z.to) (sym same)
        (server_elsewhere (record {
          lab = lab;
          is = are.rules;
          a = b_side the;
          b = a_side the;
          an = receiver_end the;
          bn = sender_end the;
        }))

  abbrev sends : List Send
  sends = (e the).step.sends

  all_to : AllByRecursion (IsSentTo own other x) sends
  all_to =
      let s = client_settings lab.topology c in
      let goes = are.handed.packet.destination in
      subst (λ (z : Ip6). AllByRecursion (IsSentTo z other x) sends)
      (address_is s (journal n H) own (sender_here the).address)
      (subst (λ (z : Ip6). AllByRecursion (IsSentTo (own_address (qualification s (journal n H))) z x) sends) goes
      (all_sent_to s (journal n H) (now H) x (words lab n H) (client_journals lab H n c are.grown.1 are.at).journal are.handed.packet.packet
      (ap is_teredo goes ∙ (receiver_end the).address.of.teredo)))

  -- so all that its record makes is
  items : (xs : List Send) → AllByRecursion (IsSentTo own other x) xs
      → AllByRecursion IsComing (filter_map item_in (map (λ (s : Send). sent (udp (embedded own) s.to s.bytes)) xs))
  items [] all = tt
  items (s ∷ xs) all = (one_coming s all.0, items xs all.1)

  pub all_coming : AllByRecursion IsComing (filter_map item_in q.made)
  all_coming = subst (λ (ms : List Made). AllByRecursion IsComing (filter_map item_in ms))
      (sym (leave the sends refl (each_so one_elsewhere sends all_to)).made) (items sends all_to)
