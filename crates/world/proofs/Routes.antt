-- Where an entry goes, as a world finds it.
use Rattle.world.proofs.Words.{AreOf, Bool, Ep, Lab, List, NatNode, Node, None, Option, PlayedNode, Route, Some, TopologyState, [], ap, arith, astray, chain_in, client, cond, false, false≢true, from_outside, has_host, is_inner, is_nat, is_some, length, length-map, map, nat, nat_pasts, native, node_at, nodes, option_map, reach, reach_node, reaches, refl, relay, route_in, row_of, server, slice_get, slice_get-map, slice_get_within, suc, sym, true, zero, ℕ, ◌<◌, ◌∙◌, ◌∷◌, ◌≡◌, ◌≤◌}
use Rattle.history.specs.Full.{Full}

slice_get_end : {A : Type 0} → (xs : List A) (n : ℕ) → slice_get xs n ≡ None → length xs ≤ n
slice_get_end [] n e = omega arith
slice_get_end (x ∷ xs) zero e = absurd (false≢true (sym (ap (λ (o : Option _). is_some o) e)))
slice_get_end (x ∷ xs) (suc n) e = let h = slice_get_end xs n e in omega (arith, h)

-- a list with the same rows is as long
pub same_length : (a b : List PlayedNode) → map row_of a ≡ map row_of b → length a ≡ length b
same_length a b same = sym (length-map a row_of) ∙ ap (λ (bs : List Node). length bs) same ∙ length-map b row_of

-- a node of the list stands in the topology
pub row_at : (t : TopologyState) (list : List PlayedNode) (n : ℕ) (p : PlayedNode) → AreOf t list → slice_get list n ≡ Some p → node_at t n ≡ Some (row_of p)
row_at t list n p of at = ap (λ (bs : List Node). slice_get bs n) (sym of) ∙ slice_get-map row_of list n ∙ ap (option_map row_of) at

-- a node of the topology is one of the list
pub within_as : (t : TopologyState) (list : List PlayedNode) (n : ℕ) → AreOf t list → n < length (nodes t) → n < length list
within_as t list n of within = let same : length list ≡ length (nodes t) = sym (length-map list row_of) ∙ ap (λ (bs : List Node). length bs) of in omega (arith, within, same)

pub within_by : (t : TopologyState) (list : List PlayedNode) (n : ℕ) (a : Node) → AreOf t list → node_at t n ≡ Some a → n < length list
within_by t list n a of at = within_as t list n of (slice_get_within (nodes t) n a at)

pub host_within : (t : TopologyState) (list : List PlayedNode) (n : ℕ) → AreOf t list → has_host (node_at t n) ≡ true → n < length list
host_within t list n of host = by (node_at t n) refl host where
  by : (o : Option Node) → node_at t n ≡ o → has_host o ≡ true → n < length list
  by None at host = absurd (false≢true host)
  by (Some a) at host = within_by t list n a of at

-- and one of the list is one of the topology
pub there_within : (t : TopologyState) (list : List PlayedNode) (n : ℕ) → AreOf t list → n < length list → (a : Node) × (node_at t n ≡ Some a)
there_within t list n of within = by (slice_get list n) refl where
  by : (o : Option PlayedNode) → slice_get list n ≡ o → (a : Node) × (node_at t n ≡ Some a)
  by None at = let past = slice_get_end list n at in absurd (omega (arith, past, within))
  by (Some p) at = (row_of p, row_at t list n p of at)

-- a node of a number that isn't too great is there
pub there_at : (t : TopologyState) (n : ℕ) → n < length (nodes t) → (a : Node) × (node_at t n ≡ Some a)
there_at t n within = by (node_at t n) refl where
  by : (o : Option Node) → node_at t n ≡ o → (a : Node) × (node_at t n ≡ Some a)
  by None at = let past = slice_get_end (nodes t) n at in absurd (omega (arith, past, within))
  by (Some a) at = (a, at)

-- DATAGRAMS FROM THE OUTSIDE

nat_row : (o : Option Node) → is_nat o ≡ true → (row : NatNode) × (o ≡ Some (nat row))
nat_row None e = absurd (false≢true e)
nat_row (Some (server x)) e = absurd (false≢true e)
nat_row (Some (nat x)) e = (x, refl)
nat_row (Some (client x)) e = absurd (false≢true e)
nat_row (Some (relay x)) e = absurd (false≢true e)
nat_row (Some (native x)) e = absurd (false≢true e)

module _ (lab : Lab) (H : List Full) (m k : ℕ) (src dst : Ep) (is : is_nat (node_at lab.topology k) ≡ true) where
  abbrev inwards : Route
  inwards = route_in lab.topology (chain_in lab.topology lab.chain (nat_pasts lab H) m k src dst.port)

  at_nat : from_outside lab H m src dst (reach lab.topology (Some k)) ≡ cond (is_inner lab.chain k) astray inwards
  at_nat = ap (λ (o : Option Node). from_outside lab H m src dst (reach_node k o)) (nat_row (node_at lab.topology k) is).1

  -- to a NAT that is behind no other
  pub comes_in : is_inner lab.chain k ≡ false → inwards ≡ from_outside lab H m src dst (reach lab.topology (Some k))
  comes_in outer = sym (at_nat ∙ ap (λ (b : Bool). cond b astray inwards) outer)

  -- to one that is
  pub goes_astray : is_inner lab.chain k ≡ true → astray ≡ from_outside lab H m src dst (reach lab.topology (Some k))
  goes_astray inner = sym (at_nat ∙ ap (λ (b : Bool). cond b astray inwards) inner)

-- to a node that is no NAT
pub comes_straight : (lab : Lab) (H : List Full) (m k : ℕ) (src dst : Ep) (a : Node) → node_at lab.topology k ≡ Some a → ((row : NatNode) → a ≡ nat row → ⊥)
    → reach lab.topology (Some k) ≡ from_outside lab H m src dst (reach lab.topology (Some k))
comes_straight lab H m k src dst a at other = ap (reach_node k) at ∙ by a other ∙ sym (ap (λ (o : Option Node). from_outside lab H m src dst (reach_node k o)) at) where
  by : (a : Node) → ((row : NatNode) → a ≡ nat row → ⊥) → reaches k a ≡ from_outside lab H m src dst (reaches k a)
  by (server x) other = refl
  by (nat x) other = absurd (other x refl)
  by (client x) other = refl
  by (relay x) other = refl
  by (native x) other = refl
