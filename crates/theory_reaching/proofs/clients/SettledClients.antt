-- A client that the tables take for settled along its way is settled along it.
use Rattle.theory_reaching.proofs.Words.{Bool, ClientNode, Ep, Full, Inward, Ip6, IsLetIn, IsSettledAlong, Lab, List, Node, None, Option, Route, Some, TopologyState, [], address_at, address_of, and_parts, ap, asks_at, astray, chain_in, client, client_address, closed, comes_to, cond, embedded, ends_at, eqb-true, false, first_passing, from_outside, has_cone, has_symmetric, is_all_cone, is_at, is_behind, is_inner, is_led_to, is_settled, is_settled_with, nat, nat_pasts, native, node_at, not, now, own_address, reach, reach_node, reaches, refl, relay, route, route_in, routes, server, shut_at, subst, sym, true, udp, unspecified, unwrap_or, ℕ, ◌&&◌, ◌||◌, ◌∙◌, ◌≡◌}
use Rattle.theory_reaching.proofs.Tests.{elsewhere}

-- WHERE A DATAGRAM IS LED

-- it ends at node n, which is there
pub record Ends (t : TopologyState) (n : ℕ) (w : Route) : Type 0 where
  pub node : Node
  pub is : w ≡ reaches n node
  pub there : node_at t n ≡ Some node

module _ (t : TopologyState) (n : ℕ) where
  at_node : (k : ℕ) (o : Option Node) → node_at t k ≡ o → ends_at n (reach_node k o) ≡ true → Ends t n (reach_node k o)
  at_node k None at e = elsewhere e
  at_node k (Some a) at e =
      let same = eqb-true k n e in
      record { node = a; is = ap (λ (i : ℕ). reaches i a) same; there = ap (node_at t) (sym same) ∙ at }

  of_reach : (o : Option ℕ) → ends_at n (reach t o) ≡ true → Ends t n (reach t o)
  of_reach None e = elsewhere e
  of_reach (Some k) e = at_node k (node_at t k) refl e

  of_way : (w : Inward) → ends_at n (route_in t w) ≡ true → Ends t n (route_in t w)
  of_way (comes_to k inside) e = of_reach (first_passing (is_behind k inside) t) e
  of_way (shut_at k) e = elsewhere e

module _ (lab : Lab) (H : List Full) (m n : ℕ) (src dst : Ep) where
  abbrev on_in : ℕ → Route
  on_in k = route_in lab.topology (chain_in lab.topology lab.chain (nat_pasts lab H) m k src dst.port)

  -- past NATs
  of_nat : (k : ℕ) (inner : Bool) → ends_at n (cond inner astray (on_in k)) ≡ true → Ends lab.topology n (cond inner astray (on_in k))
  of_nat k true e = elsewhere e
  of_nat k false e = of_way lab.topology n (chain_in lab.topology lab.chain (nat_pasts lab H) m k src dst.port) e

  -- or to a node that has the address
  outside : (w : Route) → (ends_at n w ≡ true → Ends lab.topology n w) → ends_at n (from_outside lab H m src dst w) ≡ true
      → Ends lab.topology n (from_outside lab H m src dst w)
  outside (reaches k (server a)) there e = there e
  outside (reaches k (nat a)) there e = of_nat k (is_inner lab.chain k) e
  outside (reaches k (client a)) there e = there e
  outside (reaches k (relay a)) there e = there e
  outside (reaches k (native a)) there e = there e
  outside (closed k) there e = elsewhere e
  outside astray there e = elsewhere e

  pub ends : ends_at n (route lab H m (udp src dst [])) ≡ true → Ends lab.topology n (route lab H m (udp src dst []))
  ends e = outside (reach lab.topology (first_passing (is_at dst) lab.topology)) (of_reach lab.topology n (first_passing (is_at dst) lab.topology)) e

-- what is led to a client is let in to it
pub let_in : (lab : Lab) (H : List Full) (n : ℕ) (c : ClientNode) (src dst : Ep) → node_at lab.topology n ≡ Some (client c)
    → is_led_to lab H src dst n ≡ true → IsLetIn lab H (now H) src dst c
unfolding is_led_to
let_in lab H n c src dst at e =
    let to = ends lab H (now H) n src dst e in
    let same : to.node ≡ client c = ap (λ (o : Option Node). unwrap_or o (client c)) (sym to.there ∙ at) in
    routes lab H (now H) (udp src dst []) n (client c) (to.is ∙ ap (λ (z : Node). reaches n z) same)

-- A SETTLED CLIENT

-- its address is that which its host sends from
pub own_is : (lab : Lab) (H : List Full) (n : ℕ) (c : ClientNode) (own : Ip6) → node_at lab.topology n ≡ Some (client c)
    → client_address lab H n c ≡ Some own → address_at lab H n ≡ own
unfolding own_address
own_is lab H n c own at has = ap (address_of lab H n) at ∙ ap (λ (o : Option Ip6). unwrap_or o unspecified) has

module _ (lab : Lab) (H : List Full) (n : ℕ) (c : ClientNode) (at : node_at lab.topology n ≡ Some (client c)) where
  not_it : (b : Bool) → not b ≡ true → b ≡ false
  not_it false e = refl
  not_it true e = sym e

  if_so : (b k : Bool) → (not b || k) ≡ true → b ≡ true → k ≡ true
  if_so true k e is = e
  if_so false k e is = elsewhere is

  with_address : (o : Option Ip6) → client_address lab H n c ≡ o → is_settled_with lab H n c o ≡ true → IsSettledAlong lab H n c (address_at lab H n)
  with_address None has e = elsewhere e
  with_address (Some own) has e =
      let first = and_parts (not (has_symmetric lab c)) (is_led_to lab H (asks_at lab c) (embedded own) n && (not (has_cone own) || is_all_cone lab c)) e in
      let second = and_parts (is_led_to lab H (asks_at lab c) (embedded own) n) (not (has_cone own) || is_all_cone lab c) first.1 in
      subst (IsSettledAlong lab H n c) (sym (own_is lab H n c own at has)) (record {
        address = has;
        kinds = not_it (has_symmetric lab c) first.0;
        reached = let_in lab H n c (asks_at lab c) (embedded own) at second.0;
        cone = if_so (has_cone own) (is_all_cone lab c) second.1;
      })

  pub settled_along : is_settled lab H n c ≡ true → IsSettledAlong lab H n c (address_at lab H n)
  unfolding is_settled
  settled_along e = with_address (client_address lab H n c) refl e
