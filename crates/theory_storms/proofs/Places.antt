-- Which node an endpoint is at.
use Rattle.theory_storms.proofs.Words.{Bool, Ep, IsTopology, List, Node, None, Option, RelayNode, ServerNode, Some, TopologyState, [], and_parts, ap, arith, client, cond, false, false≢true, first_passing, get_or, has_it, is_at, is_server_at, is_some, is_some_server, length, list_any, lt-ltb, nat, native, node_at, nodes, not, option_and_then, or_left, or_right, position, position-Some, position_or_len, refl, relay, same_ep, same_ip, server, slice_get, slice_get-get_or, suc, sym, topology_apart, true, unwrap_or, zero, ℕ, ◌+◌, ◌<◌, ◌||◌, ◌∙◌, ◌∷◌, ◌≡◌}

-- THE FIRST THAT IS THERE

-- the node that datagrams to dst come to
abbrev pub first_at : TopologyState → Ep → Option Node
first_at t dst = option_and_then (node_at t) (first_passing (is_at dst) t)

pub record IsThere (t : TopologyState) (dst : Ep) (a : Node) : Type 0 where
  pub number : ℕ
  pub node : node_at t number ≡ Some a
  pub passes : is_at dst a ≡ true

pub is_there : (t : TopologyState) (dst : Ep) (a : Node) → first_at t dst ≡ Some a → IsThere t dst a
is_there t dst a e = by (first_passing (is_at dst) t) refl e where
  by : (o : Option ℕ) → first_passing (is_at dst) t ≡ o → option_and_then (node_at t) o ≡ Some a → IsThere t dst a
  by None is h = absurd (false≢true (ap (λ (z : Option Node). is_some z) h))
  by (Some k) is h =
      let some = position-Some (is_at dst) (nodes t) k a is in
      let here : node_at t k ≡ Some (get_or (nodes t) k a) = slice_get-get_or (nodes t) k a some.0 in
      let one : get_or (nodes t) k a ≡ a = ap (λ (o : Option Node). unwrap_or o a) (sym here ∙ h) in
      record { number = k; node = h; passes = ap (is_at dst) (sym one) ∙ some.1 }

-- where one passes there is a first
within : (p : Node → Bool) (xs : List Node) (n : ℕ) (a : Node) → slice_get xs n ≡ Some a → p a ≡ true → position_or_len p xs < length xs
within p [] n a at h = absurd (false≢true (ap (λ (o : Option Node). is_some o) at))
within p (x ∷ xs) n a at h = by (p x) refl n at (within p xs) where
  by : (b : Bool) → p x ≡ b → (j : ℕ) → slice_get (x ∷ xs) j ≡ Some a
      → ((i : ℕ) (c : Node) → slice_get xs i ≡ Some c → p c ≡ true → position_or_len p xs < length xs)
      → cond (not b) (1 + position_or_len p xs) 0 < suc (length xs)
  by true e j there ih = omega arith
  by false e zero there ih = absurd (false≢true (sym e ∙ ap p (ap (λ (o : Option Node). unwrap_or o x) there) ∙ h))
  by false e (suc j) there ih = let rest = ih j a there h in omega (arith, rest)

some : (p : Node → Bool) (xs : List Node) (n : ℕ) (a : Node) → slice_get xs n ≡ Some a → p a ≡ true → is_some (position p xs) ≡ true
some p xs n a at h = ap (λ (b : Bool). is_some (cond b (Some (position_or_len p xs)) None)) (lt-ltb (position_or_len p xs) (length xs) (within p xs n a at h))

-- one that passes is found, or one before it
finds : (p : Node → Bool) (xs : List Node) (n : ℕ) (a : Node) → slice_get xs n ≡ Some a → p a ≡ true
    → is_some (option_and_then (slice_get xs) (position p xs)) ≡ true
finds p xs n a at h = by (position p xs) refl (some p xs n a at h) where
  by : (o : Option ℕ) → position p xs ≡ o → is_some o ≡ true → is_some (option_and_then (slice_get xs) o) ≡ true
  by None e g = g
  by (Some k) e g = let s = position-Some p xs k a e in ap (λ (z : Option Node). is_some z) (slice_get-get_or xs k a s.0)

-- WHO HAS AN ADDRESS

pub ep_ip : (a b : Ep) → same_ep a b ≡ true → same_ip a.ip b.ip ≡ true
unfolding same_ep
ep_ip a b h = (and_parts _ _ h).0

-- no two nodes are at one endpoint
pub one_there : (t : TopologyState) (dst : Ep) (a b : Node) → IsTopology t → IsThere t dst a → IsThere t dst b → b ≡ a
one_there t dst a b is x y =
    let same : y.number ≡ x.number = topology_apart t y.number x.number b a dst.ip is y.node x.node (has_it dst b y.passes) (has_it dst a x.passes) in
    ap (λ (o : Option Node). unwrap_or o b) (sym y.node ∙ ap (node_at t) same ∙ x.node)

-- a node that is there is the first
pub first_is : (t : TopologyState) (dst : Ep) (n : ℕ) (a : Node) → IsTopology t → node_at t n ≡ Some a → is_at dst a ≡ true
    → first_at t dst ≡ Some a
first_is t dst n a is at h = by (first_at t dst) refl (finds (is_at dst) (nodes t) n a at h) where
  by : (o : Option Node) → first_at t dst ≡ o → is_some o ≡ true → first_at t dst ≡ Some a
  by None e g = absurd (false≢true g)
  by (Some b) e g = e ∙ ap (λ (z : Node). Some z) (one_there t dst a b is (record { number = n; node = at; passes = h }) (is_there t dst b e))

-- SERVERS, NATS AND RELAYS

-- one of a list that passes has a place
pub record Placed (p : Node → Bool) (xs : List Node) : Type 0 where
  pub number : ℕ
  pub node : Node
  pub at : slice_get xs number ≡ Some node
  pub passes : p node ≡ true

pub placed : (p : Node → Bool) (xs : List Node) → list_any p xs ≡ true → Placed p xs
placed p [] h = absurd (false≢true h)
placed p (x ∷ xs) h = by (p x) refl h (placed p xs) where
  by : (b : Bool) → p x ≡ b → (b || list_any p xs) ≡ true → (list_any p xs ≡ true → Placed p xs) → Placed p (x ∷ xs)
  by true e g ih = record { number = zero; node = x; at = refl; passes = e }
  by false e g ih = let rest = ih g in record { number = suc rest.number; node = rest.node; at = rest.at; passes = rest.passes }

pub any_there : (p : Node → Bool) (xs : List Node) (n : ℕ) (a : Node) → slice_get xs n ≡ Some a → p a ≡ true → list_any p xs ≡ true
any_there p [] n a at h = absurd (false≢true (ap (λ (o : Option Node). is_some o) at))
any_there p (x ∷ xs) zero a at h = or_left (p x) (list_any p xs) (ap p (ap (λ (o : Option Node). unwrap_or o x) at) ∙ h)
any_there p (x ∷ xs) (suc n) a at h = or_right (p x) (list_any p xs) (any_there p xs n a at h)

-- a server at an endpoint is the first there
pub record ServerThere (t : TopologyState) (dst : Ep) : Type 0 where
  pub number : ℕ
  pub row : ServerNode
  pub node : node_at t number ≡ Some (server row)
  pub passes : is_at dst (server row) ≡ true

server_of : (t : TopologyState) (dst : Ep) (n : ℕ) (a : Node) → node_at t n ≡ Some a → is_server_at dst a ≡ true → ServerThere t dst
server_of t dst n (server a) at h = record { number = n; row = a; node = at; passes = h }
server_of t dst n (nat a) at h = absurd (false≢true h)
server_of t dst n (client a) at h = absurd (false≢true h)
server_of t dst n (relay a) at h = absurd (false≢true h)
server_of t dst n (native a) at h = absurd (false≢true h)

pub server_there : (t : TopologyState) (dst : Ep) → is_some_server t dst ≡ true → ServerThere t dst
server_there t dst h = let p = placed (is_server_at dst) (nodes t) h in server_of t dst p.number p.node p.at p.passes

-- no relay is at a server's endpoint
abbrev is_relay : Node → Bool
is_relay (relay r) = true
is_relay _ = false

pub relay_is_apart : (t : TopologyState) (n : ℕ) (r : RelayNode) → IsTopology t → node_at t n ≡ Some (relay r)
    → is_at r.at (relay r) ≡ true → is_some_server t r.at ≡ false
relay_is_apart t n r is at own = by (is_some_server t r.at) refl where
  by : (b : Bool) → is_some_server t r.at ≡ b → b ≡ false
  by false e = refl
  by true e =
      let s = server_there t r.at e in
      let same : server s.row ≡ relay r = one_there t r.at (relay r) (server s.row) is
      (record { number = n; node = at; passes = own }) (record { number = s.number; node = s.node; passes = s.passes }) in
      absurd (false≢true (ap is_relay same))
