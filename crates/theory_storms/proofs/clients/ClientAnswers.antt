-- What a client answers to a bubble through its server, and the test that it sends, weigh less than what they answer.
use Rattle.theory_storms.proofs.Words.{AreOfSends, BUBBLE_HOP, Bool, Entry, Ep, Fields, Ip6, IsIndirect, IsSuspect, Message, None, Option, Send, Some, TEST_ID, TEST_SEQ, [], ap, arith, big_bytes, bubble_bytes, bubble_of, bubble_reads_back, client_packet, cond, direct_bubble, echo_request, embedded, false, is_payload, is_solicit, is_some_server, is_teredo, is_trusted_for, less, map, mention, mentions, message_is_carried, message_packet, nonce_from, option_to_list, origin_in, packet_bytes, packet_is_payload, packet_reads_back, refl, send, server_ep, subst, sum_by-cons, test, true, udp, value_in, ℕ, ◌+◌, ◌<◌, ◌∙◌, ◌∷◌, ◌≡◌, ◌≤◌}
use Rattle.teredo_node.specs.declared.fate.Fate.TheVariants as fate
use Rattle.client_rules.specs.Reception as reception
use Rattle.theory_storms.proofs.PeersWait.{waits_for, freed, added}
use Rattle.theory_storms.proofs.Sent.{test_sent, answer_sent}
use Rattle.theory_storms.proofs.NewItems.{MayWeigh, sends_weigh}
use Rattle.theory_storms.proofs.clients.ClientServers.{own_server, good_origin}
use Rattle.theory_storms.proofs.EasedWeights.{eased_most}
use Rattle.theory_storms.proofs.clients.ClientTests.{trusted_test}
use Rattle.theory_storms.proofs.clients.AtClient.{AtClient, weigh, setup, seen_of, peer_of, own_of, came, LightAs, Light}
use Rattle.theory_storms.proofs.clients.AtClient.{IsAtClient, payload_is, native_is, own_made}
use Rattle.theory_storms.proofs.clients.AtClient.{peer_made, IsTouch, shifted, lasting}

module _ (d : AtClient) (g : IsAtClient d) where
  abbrev p : Ip6
  p = peer_of d

  abbrev own : Ip6
  own = own_of d

  -- ONE SEND

  -- an entry with one send, which weighs less than the datagram and frees nothing
  pub record SendsOne (e : Entry) (s : Send) (k : ℕ) : Type 0 where
    pub sends : e.step.sends ≡ s ∷ []
    pub may : MayWeigh (weigh d) (λ (z : Send). k) s
    pub less : k < d.heavy
    pub touch : IsTouch d e
    pub hears : (mention e).bearing.hears ≡ false
    pub queues : (mention e).bearing.queues ≡ None

  one_send : (e : Entry) (s : Send) (k : ℕ) → is_payload d.x ≡ true → SendsOne e s k → LightAs d e
  one_send e s k payload one made are fresh =
      let new = sends_weigh (weigh d) (λ (z : Send). k) made (s ∷ []) (subst (AreOfSends made) one.sends are) fresh (one.may, tt) in
      let single = sum_by-cons (λ (z : Send). k) s [] in
      let less = shifted d e payload one.touch in
      let all = ap (λ (b : Bool). freed client_packet b (waits_for client_packet (mentions d.j.entries) d.m p)) one.hears in
      let none = ap (added client_packet) one.queues in
      let after = lasting d e one.touch.0 in
      let weighs = one.less in
      omega (arith, new, single, less, all, none, after, weighs)

  -- THE ANSWER TO AN INDIRECT BUBBLE

  origin_of : IsIndirect (seen_of d) → (to : Ep) × (origin_in (value_in d.x).lead ≡ Some to) × (is_teredo p ≡ true → to ≡ embedded p)
  unfolding reception.seen
  origin_of h = good_origin (setup d).policy p (origin_in (value_in d.x).lead) h.origin

  -- a bubble weighs one less than what draws it
  one_less : (b : Bool) → cond b 3 2 ≤ d.heavy → cond b 2 1 < d.heavy
  one_less true h = omega (arith, h)
  one_less false h = omega (arith, h)

  pub indirect : Light d fate.Indirect
  indirect only =
      let o = origin_of only in
      let to : Ep = o.0 in
      let reads = bubble_reads_back own p (own_made d g only.mine) (peer_made d g only.mine) in
      let e : Entry = came d fate.Indirect in
      one_send e (direct_bubble own p to) (cond (is_some_server d.lab.topology to) 2 1) (payload_is d only.mine) (record {
        sends = ap (λ (z : Option Ep). map (direct_bubble own p) (option_to_list z)) o.1;
        may = λ from item.
            let plain = answer_sent (record { t = d.lab.topology; src = from; to = to; p = bubble_of own p; reads = reads.payload; bytes = reads.bytes; made = item.source }) reads.bubble
            o.2 in
            let most = eased_most d.ease d.lab.topology d.after (udp from to (bubble_bytes own p)) in
            omega (arith, plain, most);
        less = one_less (is_some_server d.lab.topology to) (g.indirect only to o.1);
        touch = (refl, refl, refl, refl);
        hears = refl;
        queues = refl;
      })

  -- A TEST

  abbrev message : Message
  message = echo_request TEST_ID TEST_SEQ (big_bytes 8 (nonce_from d.w))

  abbrev request : Fields
  request = message_packet BUBBLE_HOP own p message

  abbrev to_server : Ep
  to_server = server_ep (setup d).primary

  test_is : test (setup d) own p (nonce_from d.w) ≡ send to_server (packet_bytes request)
  unfolding test
  test_is = refl

  -- the host's relay trusts the client
  abbrev knows : Bool
  knows = is_trusted_for d.lab.topology d.after p own

  abbrev test_weight : ℕ
  test_weight = less d.ease.amount knows 7

  test_may : (full : Bool) → IsSuspect full (seen_of d) → MayWeigh (weigh d) (λ (z : Send). test_weight) (send to_server (packet_bytes request))
  test_may full only from item =
      let mine = only.direct.mine in
      let c_is = message_is_carried BUBBLE_HOP own p message (record {
        hop_fits = omega arith;
        src_fits = own_made d g mine;
        dst_fits = peer_made d g mine;
        fits = (omega arith, omega arith);
        valid = tt;
        short = omega arith;
      }) in
      let reads = packet_is_payload (packet_bytes request) request item.bytes item.short (packet_reads_back request c_is.packet).read in
      let sent = test_sent (record { t = d.lab.topology; src = from; to = to_server; p = request; reads = reads; bytes = item.bytes; made = item.source })
      (own_server d.lab.topology d.c g.rules g.served) (native_is d full only) (ap is_solicit c_is.message) in
      let most = eased_most d.ease d.lab.topology d.after (udp from to_server (packet_bytes request)) in
      by (omega (arith, sent, most)) knows refl (λ trusted. trusted_test d.ease d.lab.topology d.after from to_server (packet_bytes request) (record {
        request = request;
        row = g.served.row;
        reads = reads;
        there = own_server d.lab.topology d.c g.rules g.served;
        native = native_is d full only;
        plain = ap is_solicit c_is.message;
        knows = trusted;
      }))
    where
      by : weigh d (udp from to_server (packet_bytes request)) ≤ 7 → (b : Bool) → knows ≡ b
          → (knows ≡ true → weigh d (udp from to_server (packet_bytes request)) + d.ease.amount ≤ 7)
          → weigh d (udp from to_server (packet_bytes request)) ≤ less d.ease.amount b 7
      by plain false e eased = plain
      by plain true e eased = let most = eased e in let few = d.ease.few in omega (arith, most, few)

  -- it weighs one less than what draws it
  lighter : (b : Bool) → less d.ease.amount b 8 ≤ d.heavy → less d.ease.amount b 7 < d.heavy
  lighter true h = let few = d.ease.few in omega (arith, h, few)
  lighter false h = omega (arith, h)

  pub tests : (full : Bool) (e : Entry) → IsSuspect full (seen_of d) → e.step.sends ≡ test (setup d) own p (nonce_from d.w) ∷ [] → IsTouch d e
      → (mention e).bearing.hears ≡ false → (mention e).bearing.queues ≡ None → LightAs d e
  tests full e only sends touch hears queues =
      one_send e (send to_server (packet_bytes request)) test_weight (payload_is d only.direct.mine) (record {
        sends = sends ∙ ap (λ (z : Send). z ∷ []) test_is;
        may = test_may full only;
        less = lighter knows (g.suspect full only);
        touch = touch;
        hears = hears;
        queues = queues;
      })
