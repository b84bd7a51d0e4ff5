-- What the datagrams weigh that nodes send in answer to others.
use Rattle.theory_storms.proofs.Words.{Bool, Ep, Fields, IsBytes, IsEp, List, Node, None, Option, ReadsPayload, ServerNode, Some, TopologyState, ap, arith, client, cond, datagram_weight, embedded, entry_weight, false, false≢true, is_at, is_bubble, is_echo_reply, is_own, is_server_at, is_solicit, is_some_server, is_teredo, message_in, nat, native, nodes, or_left, or_right, output_weight, refl, relay, same_ep, same_ip, server, server_ep, server_row, server_settings, side_at, sym, true, udp, value_written, weight_at, ℕ, ◌+◌, ◌||◌, ◌∙◌, ◌≡◌, ◌≤◌}
use Rattle.theory_storms.proofs.Weighed.{datagram_most}
use Rattle.theory_storms.proofs.Places.{first_at, IsThere, is_there, ep_ip, any_there}
use Rattle.theory_storms.proofs.Freights.{load, load_is, bubble_load, teredo_load, reply_load, packet_under, bubble_message, bubble_weight}
use Rattle.theory_storms.proofs.others.AtServers.{teredo_there, looped_there, native_there, bubble_there}

-- what a server makes of a datagram
abbrev drawn_from : TopologyState → Ep → Ep → List ℕ → ServerNode → ℕ
drawn_from t src to x a = output_weight t (server a) x (server_row (server_settings a) (side_at (server a) to) src x)

-- no more than k, wherever it goes
sent_under : (t : TopologyState) (src to : Ep) (x : List ℕ) (k : ℕ) → datagram_weight t src to x ≤ k
    → ((a : ServerNode) → IsThere t to (server a) → 1 + drawn_from t src to x a ≤ k) → entry_weight t (udp src to x) ≤ k
sent_under t src to x k plain served = by (first_at t to) refl where
  by : (o : Option Node) → first_at t to ≡ o → weight_at t src to x o ≤ k
  by None e = plain
  by (Some (server a)) e = served a (is_there t to (server a) e)
  by (Some (nat a)) e = plain
  by (Some (client a)) e = plain
  by (Some (relay a)) e = plain
  by (Some (native a)) e = plain

-- a server's endpoint has one of its addresses
pub own_there : (a : ServerNode) (to : Ep) → is_at to (server a) ≡ true → is_own (server_settings a) to.ip ≡ true
unfolding is_own
own_there a to h = by (same_ep to (server_ep a.primary)) (same_ep to (server_ep a.secondary)) (ep_ip to (server_ep a.primary))
    (ep_ip to (server_ep a.secondary)) h where
      by : (b c : Bool) → (b ≡ true → same_ip to.ip a.primary ≡ true) → (c ≡ true → same_ip to.ip a.secondary ≡ true) → (b || c) ≡ true
          → (same_ip to.ip a.primary || same_ip to.ip a.secondary) ≡ true
      by true c f g k = or_left (same_ip to.ip a.primary) (same_ip to.ip a.secondary) (f refl)
      by false c f g k = or_right (same_ip to.ip a.primary) (same_ip to.ip a.secondary) (g k)

no_request : (p : Fields) → is_bubble p ≡ true → is_solicit (message_in p) ≡ false
no_request p bubble = ap is_solicit (bubble_message p bubble)

-- a datagram with a payload that is read
pub record SentDatagram (x : List ℕ) : Type 0 where
  pub t : TopologyState
  pub src : Ep
  pub to : Ep
  pub p : Fields
  pub reads : ReadsPayload (value_written None None p) x
  pub bytes : IsBytes x
  pub made : IsEp src

-- a datagram with a packet and nothing in front
module _ {x : List ℕ} (sent_datagram : SentDatagram x) where
  open sent_datagram use {t, src, to, p, reads, bytes, made}

  plain_is : datagram_weight t src to x ≡ load t src to None p
  plain_is = load_is t src to None p x reads

  -- a client's packet that isn't a bubble
  pub teredo_sent : is_teredo p.src ≡ true → is_bubble p ≡ false → entry_weight t (udp src to x) ≤ 8
  teredo_sent teredo plain = sent_under t src to x 8
      (let is = plain_is in let less = teredo_load t src to None p teredo plain in omega (arith, is, less))
      (λ a there. let less = teredo_there (record { t = t; a = a; side = side_at (server a) to; from = src; x = x; p = p; reads = reads; bytes = bytes; made = made }) teredo plain in omega (arith, less))

  looped : {a : ServerNode} → is_teredo p.dst ≡ true → to ≡ embedded p.dst → IsThere t to (server a) → drawn_from t src to x a ≤ 0
  looped {a} teredo where_to there =
      looped_there (record { t = t; a = a; side = side_at (server a) to; from = src; x = x; p = p; reads = reads; bytes = bytes; made = made }) teredo
      (ap (λ (e : Ep). is_own (server_settings a) e.ip) (sym where_to) ∙ own_there a to there.passes)

  -- what a relay releases: an echo reply, or anything
  pub reply_sent : is_teredo p.src ≡ false → is_teredo p.dst ≡ true → to ≡ embedded p.dst → is_echo_reply (message_in p) ≡ true
      → entry_weight t (udp src to x) ≤ 1
  reply_sent foreign teredo where_to reply = sent_under t src to x 1
      (let is = plain_is in let less = reply_load t src to p foreign reply in omega (arith, is, less))
      (λ a there. let less = looped teredo where_to there in omega (arith, less))

  pub packet_sent : is_teredo p.dst ≡ true → to ≡ embedded p.dst → entry_weight t (udp src to x) ≤ 8
  packet_sent teredo where_to = sent_under t src to x 8 (datagram_most t src to x) (λ a there. let less = looped teredo where_to there in omega (arith, less))

  -- a test, which goes to a server
  pub test_sent : {a : ServerNode} → first_at t to ≡ Some (server a) → is_teredo p.dst ≡ false → is_solicit (message_in p) ≡ false
      → entry_weight t (udp src to x) ≤ 7
  test_sent {a} first foreign plain =
      let is = ap (weight_at t src to x) first in
      let six = packet_under p 6 (omega arith) (λ _. omega arith) in
      let less = native_there (record { t = t; a = a; side = side_at (server a) to; from = src; x = x; p = p; reads = reads; bytes = bytes; made = made }) 6 foreign plain six in
      omega (arith, is, less)

  -- the answer to an indirect bubble, to a server's endpoint or elsewhere
  pub answer_sent : is_bubble p ≡ true → (is_teredo p.dst ≡ true → to ≡ embedded p.dst) → entry_weight t (udp src to x) ≤ cond (is_some_server t to) 2 1
  answer_sent bubble where_to = by (is_some_server t to) refl where
    plain : datagram_weight t src to x ≤ 1
    plain = let is = plain_is in let less = bubble_load t src to p bubble in omega (arith, is, less)

    there_is : (a : ServerNode) (teredo : Bool) → is_teredo p.dst ≡ teredo → IsThere t to (server a) → 1 + drawn_from t src to x a ≤ 2
    there_is a true e there = let less = looped e (where_to e) there in omega (arith, less)
    there_is a false e there = let less = native_there (record { t = t; a = a; side = side_at (server a) to; from = src; x = x; p = p; reads = reads; bytes = bytes; made = made }) 1 e (no_request p bubble)
        (bubble_weight p bubble) in omega (arith, less)

    by : (b : Bool) → is_some_server t to ≡ b → entry_weight t (udp src to x) ≤ cond b 2 1
    by true e = sent_under t src to x 2 (let less = plain in omega (arith, less)) (λ a there. there_is a (is_teredo p.dst) refl there)
    by false e = sent_under t src to x 1 plain (λ a there. absurd
        (false≢true (sym e ∙ any_there (is_server_at to) (nodes t) there.number (server a) there.node there.passes)))

  -- a relay's bubble through a server
  pub bubble_sent : is_bubble p ≡ true → is_some_server t src ≡ false → entry_weight t (udp src to x) ≤ 3
  bubble_sent bubble elsewhere = sent_under t src to x 3
      (let is = plain_is in let less = bubble_load t src to p bubble in omega (arith, is, less))
      (λ a there. let less = bubble_there (record { t = t; a = a; side = side_at (server a) to; from = src; x = x; p = p; reads = reads; bytes = bytes; made = made }) bubble (no_request p bubble) elsewhere in omega
      (arith, less))
