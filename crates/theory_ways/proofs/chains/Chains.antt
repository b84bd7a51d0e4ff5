-- What the rules of a chain say: each NAT is behind one other at most, both are there, and the outer one comes later.
use Rattle.theory_ways.proofs.Words.{Behind, Bool, List, Option, Some, TopologyState, WAY_MAX, [], and_parts, ap, arith, cond, each_once, false, false≢true, is_apart, is_chain, is_link, is_nat, is_some, length, list_all, nat_le, nat_lt, nat_tests, node_at, outer_in, refl, same_Some, subst, true, way_out, ℕ, ◌&&◌, ◌<◌, ◌==◌, ◌∷◌, ◌≡◌}

-- THE RULES

module _ (t : TopologyState) (chain : List Behind) (keeps : is_chain t chain ≡ true) where
  abbrev Parts : Type 0
  Parts = (list_all (is_link t chain) chain ≡ true) × ((each_once chain && list_all (is_apart t chain) t.clients) ≡ true)

  parts : Parts
  unfolding is_chain
  parts = and_parts (list_all (is_link t chain) chain) (each_once chain && list_all (is_apart t chain) t.clients) keeps

  -- each pair keeps the rules
  pub links_of : list_all (is_link t chain) chain ≡ true
  links_of = parts.0

  -- each NAT is the inner one once
  pub once_of : each_once chain ≡ true
  once_of = (and_parts (each_once chain) (list_all (is_apart t chain) t.clients) parts.1).0

  -- each client's address is that of no NAT beside it
  pub aparts_of : list_all (is_apart t chain) t.clients ≡ true
  aparts_of = (and_parts (each_once chain) (list_all (is_apart t chain) t.clients) parts.1).1

-- what a pair says of the NAT outside another one
pub record Link (t : TopologyState) (j i : ℕ) : Type 0 where
  pub inner : is_nat (node_at t j) ≡ true
  pub outer : is_nat (node_at t i) ≡ true
  pub order : j < i

-- one pair
of_pair : (t : TopologyState) (chain : List Behind) (b : Behind) → is_link t chain b ≡ true → Link t b.inner b.outer
of_pair t chain b is =
    let first = and_parts (is_nat (node_at t b.inner))
    (is_nat (node_at t b.outer) && (nat_lt b.inner b.outer && nat_le (length (way_out chain b.inner)) WAY_MAX)) is in
    let second = and_parts (is_nat (node_at t b.outer)) (nat_lt b.inner b.outer && nat_le (length (way_out chain b.inner)) WAY_MAX) first.1 in
    let third = (and_parts (nat_lt b.inner b.outer) (nat_le (length (way_out chain b.inner)) WAY_MAX) second.1).0 in
    record { inner = first.0; outer = second.0; order = grind (arith, nat_tests) }

-- among some
linked : (t : TopologyState) (chain rest : List Behind) (j i : ℕ) → list_all (is_link t chain) rest ≡ true → outer_in rest j ≡ Some i → Link t j i
linked t chain [] j i all at = absurd (false≢true (ap (λ (o : Option ℕ). is_some o) at))
linked t chain (b ∷ rest) j i all at = by (b.inner == j) refl at (λ e. linked t chain rest j i both.1 e) where
  both : (is_link t chain b ≡ true) × (list_all (is_link t chain) rest ≡ true)
  both = and_parts (is_link t chain b) (list_all (is_link t chain) rest) all

  by : (x : Bool) → (b.inner == j) ≡ x → cond x (Some b.outer) (outer_in rest j) ≡ Some i → (outer_in rest j ≡ Some i → Link t j i) → Link t j i
  by false e f ih = ih f
  by true e f ih =
      let inner : b.inner ≡ j = grind (arith, nat_tests) in
      subst (λ (k : ℕ). Link t k i) inner (subst (Link t b.inner) (same_Some b.outer i f) (of_pair t chain b both.0))

-- the NAT outside another one
pub link : (t : TopologyState) (chain : List Behind) (j i : ℕ) → list_all (is_link t chain) chain ≡ true → outer_in chain j ≡ Some i → Link t j i
link t chain j i all at = linked t chain chain j i all at
