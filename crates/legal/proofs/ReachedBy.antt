-- Where a delivery went, read back.
use Rattle.legal.proofs.Words.{Bool, DatagramReaches, EachRoute, Ep, Full, Inward, Lab, List, NatNode, Node, None, Option, PacketReaches, Route, Some, TopologyState, and_parts, ap, arith, as_nat, astray, chain_in, client, closed, comes_to, cond, false, false≢true, fields_in, first_passing, from_outside, get_or, inl, inr, is_at, is_behind, is_inner, is_native, is_packet, is_some, nat, nat_tests, native, node_at, nodes, or_cases, position-Some, reach, reach_node, reaches, refl, relay, route_in, same_ep, same_ep-true, same_ip-true, server, server_ep, shut_at, six, slice_get-get_or, sym, true, udp, unwrap_or, ℕ, ◌==◌, ◌∙◌, ◌≡◌, ◌⊎◌}
use Rattle.legal.specs.Past.{nat_pasts}
use Rattle.legal.proofs.RouteEnds.{number_in, node_in, is_reached}

-- WHERE A NODE IS

-- the node that a route ends at passes the test by which it was looked for
record Found (test : Node → Bool) (t : TopologyState) (n : ℕ) (a : Node) : Type 0 where
  there : node_at t n ≡ Some a
  passes : test a ≡ true

reached_at : (t : TopologyState) (k n : ℕ) (a : Node) → reach t (Some k) ≡ reaches n a → (k ≡ n) × (node_at t n ≡ Some a)
reached_at t k n a e = by (node_at t k) refl e where
  by : (o : Option Node) → node_at t k ≡ o → reach_node k o ≡ reaches n a → (k ≡ n) × (node_at t n ≡ Some a)
  by None is h = absurd (false≢true (ap is_reached h))
  by (Some b) is h =
      let same : k ≡ n = ap (number_in k) h in
      (same, ap (node_at t) (sym same) ∙ is ∙ ap (λ (r : Route). Some (node_in b r)) h)

found : (test : Node → Bool) (t : TopologyState) (n : ℕ) (a : Node) → reach t (first_passing test t) ≡ reaches n a → Found test t n a
found test t n a e = by (first_passing test t) refl e where
  by : (o : Option ℕ) → first_passing test t ≡ o → reach t o ≡ reaches n a → Found test t n a
  by None is h = absurd (false≢true (ap is_reached h))
  by (Some k) is h =
      let at = reached_at t k n a h in
      let some = position-Some test (nodes t) k a is in
      let here : node_at t k ≡ Some (get_or (nodes t) k a) = slice_get-get_or (nodes t) k a some.0 in
      let one : get_or (nodes t) k a ≡ a = ap (λ (o : Option Node). unwrap_or o a) (sym here ∙ ap (node_at t) at.0 ∙ at.1) in
      record { there = at.1; passes = ap test (sym one) ∙ some.1 }

-- DATAGRAMS

-- a client behind NATs
record IsPassed (lab : Lab) (H : List Full) (m : ℕ) (src dst : Ep) (inward : Inward) : Type 0 where
  outer : ℕ
  row : NatNode
  there : node_at lab.topology outer ≡ Some (nat row)
  outermost : is_inner lab.chain outer ≡ false
  external : dst.ip ≡ row.external
  enters : chain_in lab.topology lab.chain (nat_pasts lab H) m outer src dst.port ≡ inward

module _ (lab : Lab) (H : List Full) (m : ℕ) (src dst : Ep) where
  -- the first node that is there is no NAT: it is reached itself
  at_itself : (a : Node) → is_at dst a ≡ true → as_nat a ≡ None → DatagramReaches lab H m src dst a
  at_itself (server a) h none = by (or_cases (same_ep dst (server_ep a.primary)) (same_ep dst (server_ep a.secondary)) h) where
    by : (same_ep dst (server_ep a.primary) ≡ true) ⊎ (same_ep dst (server_ep a.secondary) ≡ true) → (dst ≡ server_ep a.primary) ⊎ (dst ≡ server_ep a.secondary)
    by (inl e) = inl (same_ep-true dst (server_ep a.primary) e)
    by (inr e) = inr (same_ep-true dst (server_ep a.secondary) e)
  at_itself (nat a) h none = absurd (false≢true (sym (ap (λ (o : Option NatNode). is_some o) none)))
  at_itself (client c) h none = absurd (false≢true h)
  at_itself (relay r) h none = same_ep-true dst r.at h
  at_itself (native x) h none = absurd (false≢true h)

  behind : (k : ℕ) (inside : Ep) (a : Node) → IsPassed lab H m src dst (comes_to k inside) → is_behind k inside a ≡ true → DatagramReaches lab H m src dst a
  behind k inside (server a) in_ h = absurd (false≢true h)
  behind k inside (nat a) in_ h = absurd (false≢true h)
  behind k inside (relay a) in_ h = absurd (false≢true h)
  behind k inside (native a) in_ h = absurd (false≢true h)
  behind k inside (client c) in_ h =
      let both = and_parts (c.nat == k) (same_ep inside c.inside) h in
      let same : k ≡ c.nat = number c.nat k both.0 in
      let who : inside ≡ c.inside = same_ep-true inside c.inside both.1 in
      record {
        outer = in_.outer;
        row = in_.row;
        there = in_.there;
        outermost = in_.outermost;
        external = in_.external;
        enters = in_.enters ∙ ap (λ (n : ℕ). comes_to n inside) same ∙ ap (λ (e : Ep). comes_to c.nat e) who;
      }
    where
      number : (x y : ℕ) → (x == y) ≡ true → y ≡ x
      number x y e = grind (arith, nat_tests)

  inward_of : (inward : Inward) (n : ℕ) (a : Node) → IsPassed lab H m src dst inward → route_in lab.topology inward ≡ reaches n a → DatagramReaches lab H m src dst a
  inward_of (comes_to k inside) n a in_ e = behind k inside a in_ (found (is_behind k inside) lab.topology n a e).passes
  inward_of (shut_at k) n a in_ e = absurd (false≢true (ap is_reached e))

  -- through a NAT that is behind no other
  through : (k : ℕ) (b : NatNode) (n : ℕ) (a : Node) → Found (is_at dst) lab.topology k (nat b)
      → cond (is_inner lab.chain k) astray (route_in lab.topology (chain_in lab.topology lab.chain (nat_pasts lab H) m k src dst.port)) ≡ reaches n a → DatagramReaches lab H m src dst a
  through k b n a f e = by (is_inner lab.chain k) refl e where
    by : (x : Bool) → is_inner lab.chain k ≡ x → cond x astray (route_in lab.topology (chain_in lab.topology lab.chain (nat_pasts lab H) m k src dst.port)) ≡ reaches n a → DatagramReaches lab H m src dst a
    by true is h = absurd (false≢true (ap is_reached h))
    by false is h =
        inward_of (chain_in lab.topology lab.chain (nat_pasts lab H) m k src dst.port) n a
        (record { outer = k; row = b; there = f.there; outermost = is; external = same_ip-true dst.ip b.external f.passes; enters = refl }) h

  itself : (k n : ℕ) (b a : Node) → Found (is_at dst) lab.topology k b → as_nat b ≡ None → reaches k b ≡ reaches n a → DatagramReaches lab H m src dst a
  itself k n b a f none h =
      let same : b ≡ a = ap (node_in b) h in
      at_itself a (ap (is_at dst) (sym same) ∙ f.passes) (ap as_nat (sym same) ∙ none)

  arrives : (n : ℕ) (a : Node) → from_outside lab H m src dst (reach lab.topology (first_passing (is_at dst) lab.topology)) ≡ reaches n a → DatagramReaches lab H m src dst a
  arrives n a e = by (reach lab.topology (first_passing (is_at dst) lab.topology)) refl e where
    by : (r : Route) → reach lab.topology (first_passing (is_at dst) lab.topology) ≡ r → from_outside lab H m src dst r ≡ reaches n a → DatagramReaches lab H m src dst a
    by (reaches k (nat b)) is h = through k b n a (found (is_at dst) lab.topology k (nat b) is) h
    by (reaches k (server b)) is h = itself k n (server b) a (found (is_at dst) lab.topology k (server b) is) refl h
    by (reaches k (client b)) is h = itself k n (client b) a (found (is_at dst) lab.topology k (client b) is) refl h
    by (reaches k (relay b)) is h = itself k n (relay b) a (found (is_at dst) lab.topology k (relay b) is) refl h
    by (reaches k (native b)) is h = itself k n (native b) a (found (is_at dst) lab.topology k (native b) is) refl h
    by (closed k) is h = absurd (false≢true (ap is_reached h))
    by astray is h = absurd (false≢true (ap is_reached h))

-- PACKETS

for_native : (bytes : List ℕ) (a : Node) → is_packet bytes ≡ true → is_native (fields_in bytes).dst a ≡ true → PacketReaches bytes a
for_native bytes (server x) p h = absurd (false≢true h)
for_native bytes (nat x) p h = absurd (false≢true h)
for_native bytes (client x) p h = absurd (false≢true h)
for_native bytes (relay x) p h = absurd (false≢true h)
for_native bytes (native x) p h = record { packet = p; destination = h }

packet_reaches : (t : TopologyState) (bytes : List ℕ) (n : ℕ) (a : Node) → cond (is_packet bytes) (reach t (first_passing (is_native (fields_in bytes).dst) t)) astray ≡ reaches n a → PacketReaches bytes a
packet_reaches t bytes n a e = by (is_packet bytes) refl e where
  by : (b : Bool) → is_packet bytes ≡ b → cond b (reach t (first_passing (is_native (fields_in bytes).dst) t)) astray ≡ reaches n a → PacketReaches bytes a
  by true p h = for_native bytes a p ((found (is_native (fields_in bytes).dst) t n a h).passes)
  by false p h = absurd (false≢true (ap is_reached h))

pub each_route : EachRoute
each_route lab H m (udp src dst bytes) n a e = arrives lab H m src dst n a e
each_route lab H m (six (Some k) bytes) n a e = sym ((reached_at lab.topology k n a e).0)
each_route lab H m (six None bytes) n a e = packet_reaches lab.topology bytes n a e
