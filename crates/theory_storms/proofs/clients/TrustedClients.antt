-- What a relay's datagram for a client weighs, once the relay trusts the client: no more than while it waited.
use Rattle.theory_storms.proofs.Words.{Bool, Ep, Fields, Freight, Full, IsMadeItem, List, Node, None, Option, ReadsPayload, ServerNode, Some, TopologyState, Value, [], ap, arith, client, cond, datagram_weight, eases_at, eases_datagram, false, false≢true, fields_in, first_of_each, freight, freight_weight, host_relay, inl, inr, is_eased, is_echo_reply, is_echo_request, is_global6, is_node-true, is_of_relay, is_own, is_payload, is_teredo, is_trusted_for, less, message_in, nat, native, packet_is_payload, packet_weight, read_as, refl, relay, relay_packet, relay_trusts, server, server_settings, side_at, subst, sym, true, trusted_by, udp, value_in, value_written, waiting_weight, weight_at, weight_with, ℕ, ◌&&◌, ◌+◌, ◌==◌, ◌||◌, ◌∙◌, ◌∷◌, ◌≡◌, ◌≤◌, ◌⊎◌}
use Rattle.theory_storms.proofs.Places.{first_at, is_there}
use Rattle.theory_storms.proofs.others.AtServers.{looped_there}
use Rattle.theory_storms.proofs.Sent.{own_there}
use Rattle.theory_storms.proofs.relays.Relays.{IsForClient, packet_weighs}
use Rattle.theory_storms.proofs.EasedWeights.{Ease, less_most, eased_is, eased_most}

-- THE WEIGHTS THAT THERE ARE

-- of a datagram that isn't for a server
abbrev pub Lines : ℕ → Type 0
Lines w = (w ≤ 3) ⊎ ((w ≡ 7) ⊎ (w ≡ 8))

freight_lines : (a : Freight) → Lines (freight_weight a)
freight_lines a = first_of_each Lines ((a.indirect && a.origin_at_server, 3) ∷ (a.indirect, 2) ∷ (a.foreign, 8) ∷ (a.for_relay, 7) ∷ []) 1
    (inl (omega arith), (inl (omega arith), (inr (inr refl), (inr (inl refl), tt)))) (inl (omega arith))

pub datagram_lines : (t : TopologyState) (src dst : Ep) (x : List ℕ) → Lines (datagram_weight t src dst x)
unfolding datagram_weight
datagram_lines t src dst x = freight_lines (freight t src dst (is_payload x) (value_in x))

-- of a packet without a relay
pub packet_lines : (p : Fields) → (packet_weight false p ≡ 6) ⊎ (packet_weight false p ≤ 2)
packet_lines p = first_of_each (λ (w : ℕ). (w ≡ 6) ⊎ (w ≤ 2))
    ((is_echo_request (message_in p) && is_teredo p.src, 6) ∷ (is_echo_request (message_in p) && is_global6 p.src, 2) ∷ []) 1
    (inl refl, (inr (omega arith), tt)) (inr (omega arith))

-- DATAGRAMS TO A CLIENT THAT IS TRUSTED

-- eight less the ease at most
eased_eight : (z : Ease) (k : Bool) (w : ℕ) → Lines w → (w ≡ 8 → k ≡ true) → less z.amount ((w == 7) || ((w == 8) && k)) w + z.amount ≤ 8
eased_eight z k w (inl small) known =
    let most = less_most z.amount ((w == 7) || ((w == 8) && k)) w in
    let few = z.few in
    omega (arith, small, most, few)
eased_eight z k w (inr (inl seven)) known =
    let few = z.few in
    subst (λ (n : ℕ). less z.amount ((n == 7) || ((n == 8) && k)) n + z.amount ≤ 8) (sym seven) (omega (arith, few))
eased_eight z k w (inr (inr eight)) known =
    subst (λ (n : ℕ). less z.amount ((n == 7) || ((n == 8) && k)) n + z.amount ≤ 8) (sym eight) (by k (known eight))
  where
    by : (b : Bool) → b ≡ true → less z.amount ((8 == 7) || ((8 == 8) && b)) 8 + z.amount ≤ 8
    by true e = let few = z.few in omega (arith, few)
    by false e = absurd (false≢true e)

-- the host's relay trusts it
pub known_by : (t : TopologyState) (G : List Full) (n : ℕ) (p : Fields) → host_relay t p.src ≡ Some n → relay_trusts t G n p.dst ≡ true
    → is_trusted_for t G p.src p.dst ≡ true
unfolding is_trusted_for
known_by t G n p of h = ap (trusted_by t G p.dst) of ∙ h

-- a datagram to a client, after a history
pub record TrustedRequest : Type 0 where
  pub z : Ease
  pub t : TopologyState
  pub G : List Full
  pub n : ℕ
  pub to : Ep
  pub x : List ℕ

module _ (trusted_request : TrustedRequest) where
  open trusted_request use {z, t, G, n, to, x}

  abbrev p : Fields
  p = fields_in x

  module _ (h : IsForClient to x) {src : Ep} (made : IsMadeItem (udp src to x)) where
    reads : ReadsPayload (value_written None None p) x
    reads = packet_is_payload x p made.bytes made.short (read_as x h.well_formed)

    -- at a server it draws nothing
    looped : {a : ServerNode} → first_at t to ≡ Some (server a) → weight_at t src to x (Some (server a)) ≤ 1
    looped {a} e =
        let there = is_there t to (server a) e in
        let none = looped_there (record { t = t; a = a; side = side_at (server a) to; from = src; x = x; p = p; reads = reads; bytes = made.bytes; made = made.source }) h.teredo
        (ap (λ (ep : Ep). is_own (server_settings a) ep.ip) (sym h.where_to) ∙ own_there a to there.passes) in
        omega (arith, none)

    module _ (known : is_trusted_for t G p.src p.dst ≡ true) where
      elsewhere : less z.amount (eases_datagram t G (value_in x).packet (datagram_weight t src to x)) (datagram_weight t src to x) + z.amount ≤ 8
      elsewhere =
          eased_eight z (is_trusted_for t G (value_in x).packet.src (value_in x).packet.dst) (datagram_weight t src to x) (datagram_lines t src to x)
          (λ _. ap (λ (v : Value). is_trusted_for t G v.packet.src v.packet.dst) reads.value ∙ known)

      at_eight : (o : Option Node) → first_at t to ≡ o → less z.amount (eases_at t G src to x o) (weight_at t src to x o) + z.amount ≤ 8
      at_eight None e = elsewhere
      at_eight (Some (server a)) e =
          let one = looped e in
          let most = less_most z.amount (eases_at t G src to x (Some (server a))) (weight_at t src to x (Some (server a))) in
          let few = z.few in
          omega (arith, one, most, few)
      at_eight (Some (nat a)) e = elsewhere
      at_eight (Some (client a)) e = elsewhere
      at_eight (Some (relay a)) e = elsewhere
      at_eight (Some (native a)) e = elsewhere

      sent_eight : weight_with z.amount t G (udp src to x) + z.amount ≤ 8
      sent_eight =
          let is = eased_is z t G (udp src to x) (is_eased t G (udp src to x)) refl in
          let most = at_eight (first_at t to) refl in
          omega (arith, is, most)

    -- as much as while it waited, at most
    pub packet_eased : relay_trusts t G n p.dst ≡ true → weight_with z.amount t G (udp src to x) ≤ waiting_weight z.amount t n x
    packet_eased trusted = by (is_echo_reply (message_in p)) (is_of_relay t n p) refl plain where
      plain : weight_with z.amount t G (udp src to x) ≤ relay_packet x
      plain =
          let old = packet_weighs t to x h src made in
          let most = eased_most z t G (udp src to x) in
          omega (arith, old, most)

      by : (reply of : Bool) → is_of_relay t n p ≡ of → weight_with z.amount t G (udp src to x) ≤ cond reply 1 8
          → weight_with z.amount t G (udp src to x) ≤ cond reply 1 (less z.amount of 8)
      by true of e old = old
      by false false e old = old
      by false true e old = let most = sent_eight (known_by t G n p (is_node-true n (host_relay t p.src) e) trusted) in omega (arith, most)
