-- What a server makes of a datagram weighs less than the datagram.
use Rattle.theory_storms.proofs.Words.{Advert, AllByRecursion, Bool, Dropped, Ep, Err, Forward, ForwardOrigin, IsBytes, IsEp, IsIp4, IsSilent, IsTopology, List, Node, None, Ok, Option, PayloadFault, Result, Rule, RuledOnlyIf, Send, ServerNode, Side, Six, Some, Span, Step, TopologyState, Value, [], ap, arith, as_server, by_payload, client, cond, datagram_weight, each_ends_among_servers, entry_weight, false, false≢true, is_own, is_server_at, is_some_server, nat, native, node_at, nodes, or_left, output_weight, own_ep, own_is_own, payload_at, refl, relay, rule_is_warranted, rule_of, same_ip, same_ip-self, send_weight, server, server_row, server_seen, server_settings, side_at, six_weight, step_of, sum_by, sym, topology_apart, true, udp, unwrap_or, weight_at, ℕ, ◌||◌, ◌∙◌, ◌∷◌, ◌≡◌, ◌≤◌}
use Rattle.theory_storms.proofs.Places.{first_at, is_there, first_is, any_there, server_there}
use Rattle.theory_storms.proofs.NewItems.{WeighsFrom}

-- FROM ONE SERVER TO ANOTHER

-- what comes from the server itself draws nothing
own_draws : (t : TopologyState) (a : ServerNode) (side : Side) (from : Ep) (x : List ℕ) → is_own (server_settings a) from.ip ≡ true
    → output_weight t (server a) x (server_row (server_settings a) side from x) ≤ 0
unfolding server_row
own_draws t a side from x own = by (payload_at x) where
  foreign : is_own (server_settings a) from.ip ≡ false → ⊥
  foreign e = false≢true (sym e ∙ own)

  of_rule : (v : Value) (r : Rule) → RuledOnlyIf r (server_seen (server_settings a) from v)
      → output_weight t (server a) x (step_of (server_settings a) side from x v r) ≤ 0
  of_rule v (Dropped f) w = omega arith
  of_rule v Advert w = absurd (foreign w.sound.foreign)
  of_rule v ForwardOrigin w = absurd (foreign w.on.sound.foreign)
  of_rule v Forward w = absurd (foreign w.on.sound.foreign)
  of_rule v Six w = absurd (foreign w.on.sound.foreign)

  by : (r : Result Value PayloadFault) → output_weight t (server a) x (by_payload (server_settings a) side from x r) ≤ 0
  by (Ok v) = of_rule v (rule_of (server_settings a) from v) (rule_is_warranted (server_settings a) from v)
  by (Err f) = omega arith

silent_draws : (t : TopologyState) (a : ServerNode) (x : List ℕ) (step : Step) → IsSilent step → output_weight t (server a) x step ≤ 0
silent_draws t a x step silent =
    let sends = ap (λ (ss : List Send). sum_by (send_weight t (server a)) ss) silent.0 in
    let six = ap (λ (o : Option Span). six_weight x o) silent.1 in
    omega (arith, sends, six)

-- a server's datagram that comes to whichever server
module _ {t : TopologyState} (is : IsTopology t) (n : ℕ) {a : ServerNode} (there : node_at t n ≡ Some (server a)) where
  draws_nothing : (s : Send) (m : ℕ) {b : ServerNode} → node_at t m ≡ Some (server b)
      → ((other : ServerNode) (at : Side) → same_ip a.primary other.primary ≡ false
      → IsSilent (server_row (server_settings other) at (own_ep (server a) s.side) s.bytes))
      → output_weight t (server b) s.bytes (server_row (server_settings b) (side_at (server b) s.to) (own_ep (server a) s.side) s.bytes) ≤ 0
  draws_nothing s m {b} at silent = by (same_ip a.primary b.primary) refl where
    by : (same : Bool) → same_ip a.primary b.primary ≡ same
        → output_weight t (server b) s.bytes (server_row (server_settings b) (side_at (server b) s.to) (own_ep (server a) s.side) s.bytes) ≤ 0
    by false e = silent_draws t b s.bytes (server_row (server_settings b) (side_at (server b) s.to) (own_ep (server a) s.side) s.bytes)
        (silent b (side_at (server b) s.to) e)
    by true e =
        let number : n ≡ m = topology_apart t n m (server a) (server b) a.primary is there at
        (or_left (same_ip a.primary a.primary) (same_ip a.primary a.secondary || false) (same_ip-self a.primary))
        (or_left (same_ip a.primary b.primary) (same_ip a.primary b.secondary || false) e) in
        let one : server a ≡ server b = ap (λ (o : Option Node). unwrap_or o (server a)) (sym there ∙ ap (node_at t) number ∙ at) in
        let same : a ≡ b = ap (λ (z : Node). unwrap_or (as_server z) a) one in
        own_draws t b (side_at (server b) s.to) (own_ep (server a) s.side) s.bytes
        (ap (λ (z : ServerNode). is_own (server_settings z) (own_ep (server a) s.side).ip) (sym same) ∙ own_is_own a s.side)

  -- it weighs what the definition says of a send
  pub send_weighs : (s : Send) → ((other : ServerNode) (at : Side) → same_ip a.primary other.primary ≡ false
      → IsSilent (server_row (server_settings other) at (own_ep (server a) s.side) s.bytes))
      → entry_weight t (udp (own_ep (server a) s.side) s.to s.bytes) ≤ send_weight t (server a) s
  send_weighs s silent = by (is_some_server t s.to) refl where
    src : Ep
    src = own_ep (server a) s.side

    elsewhere : (o : Option Node) → first_at t s.to ≡ o → is_some_server t s.to ≡ false → weight_at t src s.to s.bytes o ≤ datagram_weight t src s.to s.bytes
    elsewhere None e none = omega arith
    elsewhere (Some (server b)) e none = let h = is_there t s.to (server b) e in absurd
        (false≢true (sym none ∙ any_there (is_server_at s.to) (nodes t) h.number (server b) h.node h.passes))
    elsewhere (Some (nat b)) e none = omega arith
    elsewhere (Some (client b)) e none = omega arith
    elsewhere (Some (relay b)) e none = omega arith
    elsewhere (Some (native b)) e none = omega arith

    by : (b : Bool) → is_some_server t s.to ≡ b → entry_weight t (udp src s.to s.bytes) ≤ cond b 1 (datagram_weight t src s.to s.bytes)
    by true e =
        let h = server_there t s.to e in
        let first = ap (weight_at t src s.to s.bytes) (first_is t s.to h.number (server h.row) is h.node h.passes) in
        let less = draws_nothing s h.number h.node silent in
        omega (arith, first, less)
    by false e = elsewhere (first_at t s.to) refl e

  -- so does each of the sends of a datagram
  pub sends_weigh_so : (side : Side) (from : Ep) (x : List ℕ) → IsIp4 a.primary → IsEp from → IsBytes x
      → AllByRecursion (WeighsFrom (entry_weight t) (send_weight t (server a)) (own_ep (server a))) (server_row (server_settings a) side from x).sends
  sends_weigh_so side from x primary made bytes =
      each (server_row (server_settings a) side from x).sends
      (λ other at own apart mine. each_ends_among_servers (server_settings a) (server_settings other) side at from own x primary made bytes mine apart)
    where
      each : (sends : List Send)
          → ((other : ServerNode) (at : Side) (own : Ep) → same_ip a.primary other.primary ≡ false → is_own (server_settings a) own.ip ≡ true
          → AllByRecursion (λ (s : Send). IsSilent (server_row (server_settings other) at own s.bytes)) sends)
          → AllByRecursion (WeighsFrom (entry_weight t) (send_weight t (server a)) (own_ep (server a))) sends
      each [] silent = tt
      each (s ∷ ss) silent = (
        λ _. send_weighs s (λ other at apart. (silent other at (own_ep (server a) s.side) apart (own_is_own a s.side)).0),
        each ss
            (λ other at own apart mine. (silent other at own apart mine).1),
      )
