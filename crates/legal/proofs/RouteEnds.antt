-- What a route ends at, and a way in past NATs.
use Rattle.legal.proofs.Words.{Bool, Ep, Inward, Node, Route, ap, comes_to, false, reaches, shut_at, sym, true, ℕ, ◌∙◌, ◌≡◌}

-- THE NODE

abbrev pub number_in : ℕ → Route → ℕ
number_in k (reaches n a) = n
number_in k _ = k

abbrev pub node_in : Node → Route → Node
node_in b (reaches n a) = a
node_in b _ = b

abbrev pub is_reached : Route → Bool
is_reached (reaches n a) = true
is_reached _ = false

-- two ends of one route
pub same_end : (r : Route) (n k : ℕ) (a b : Node) → r ≡ reaches n a → r ≡ reaches k b → (n ≡ k) × (a ≡ b)
same_end r n k a b e f = (ap (number_in n) (sym e ∙ f), ap (node_in a) (sym e ∙ f))

-- THE NAT AND THE INSIDE ENDPOINT

abbrev pub nat_in : ℕ → Inward → ℕ
nat_in k (comes_to j inside) = j
nat_in k (shut_at j) = k

abbrev pub inside_in : Ep → Inward → Ep
inside_in e (comes_to j inside) = inside
inside_in e (shut_at j) = e

abbrev pub comes : Inward → Bool
comes (comes_to j inside) = true
comes (shut_at j) = false
