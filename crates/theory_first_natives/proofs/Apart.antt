-- Nodes of different kinds are two, and the IPv6 addresses of relays and native hosts are all different.
use Rattle.theory_first_natives.proofs.Words.{AreDistinct, Bool, Ip6, IsTopology, List, NativeNode, Node, Option, RelayNode, Some, TopologyState, [], any_right, ap, client, false, false≢true, list_any, map, nat, native, node_at, refl, relay, same_ip6, same_ip6-self, same_ip6-true, server, slice_get, subst, suc, sym, true, unwrap_or, zero, ℕ, ◌++◌, ◌||◌, ◌∙◌, ◌∷◌, ◌≡◌}

-- KINDS OF NODES

abbrev pub is_server_node : Node → Bool
is_server_node (server a) = true
is_server_node _ = false

abbrev pub is_client_node : Node → Bool
is_client_node (client c) = true
is_client_node _ = false

abbrev pub is_relay_node : Node → Bool
is_relay_node (relay r) = true
is_relay_node _ = false

abbrev pub is_native_node : Node → Bool
is_native_node (native h) = true
is_native_node _ = false

-- ADDRESSES

-- an address stands in one part of a list of different ones
clash : (p : Ip6) (xs ys : List Ip6) → AreDistinct same_ip6 (xs ++ ys) → list_any (same_ip6 p) xs ≡ true → list_any (same_ip6 p) ys ≡ true → ⊥
clash p [] ys d h g = false≢true h
clash p (x ∷ xs) ys d h g = by (same_ip6 p x) refl (λ k. clash p xs ys d.1 k g) h where
  by : (b : Bool) → same_ip6 p x ≡ b → (list_any (same_ip6 p) xs ≡ true → ⊥) → (b || list_any (same_ip6 p) xs) ≡ true → ⊥
  by true e rest k = false≢true (sym d.0 ∙ any_right (same_ip6 x) xs ys (subst (λ (z : Ip6). list_any (same_ip6 z) ys ≡ true) (same_ip6-true p x e) g))
  by false e rest k = rest k

-- WHERE A NODE OF A KIND STANDS

-- a node that is of none of the first kinds stands among the last ones
among : {A : Type 0} (f : A → Node) (xs : List A) (rest : List Node) (n : ℕ) {b : Node} (of : Node → Bool) → ((x : A) → of (f x) ≡ false)
    → slice_get (map f xs ++ rest) n ≡ Some b → of b ≡ true → (m : ℕ) × (slice_get rest m ≡ Some b)
among f [] rest n of none at is = (n, at)
among f (x ∷ xs) rest zero {b} of none at is = absurd (false≢true (sym (none x) ∙ ap (λ (o : Option Node). of (unwrap_or o b)) at ∙ is))
among f (x ∷ xs) rest (suc n) {b} of none at is = among f xs rest n of none at is

-- so a native's address is among those of natives, and a relay's among those of relays
native_listed : (hs : List NativeNode) (n : ℕ) (h : NativeNode) → slice_get (map native hs) n ≡ Some (native h)
    → list_any (same_ip6 h.six) (map (λ (z : NativeNode). z.six) hs) ≡ true
native_listed [] n h at = absurd cc
native_listed (x ∷ hs) zero h at =
    ap (λ (ip : Ip6). same_ip6 h.six ip || list_any (same_ip6 h.six) (map (λ (z : NativeNode). z.six) hs)) (ap six_of at)
    ∙ ap (λ (b : Bool). b || list_any (same_ip6 h.six) (map (λ (z : NativeNode). z.six) hs)) (same_ip6-self h.six) where
      six_of : Option Node → Ip6
      six_of (Some (native z)) = z.six
      six_of _ = h.six
native_listed (x ∷ hs) (suc n) h at = any_right (same_ip6 h.six) (x.six ∷ []) (map (λ (z : NativeNode). z.six) hs) (native_listed hs n h at)

relay_listed : (rs : List RelayNode) (rest : List Node) (n : ℕ) (r : RelayNode) → ((m : ℕ) → slice_get rest m ≡ Some (relay r) → ⊥)
    → slice_get (map relay rs ++ rest) n ≡ Some (relay r) → list_any (same_ip6 r.six) (map (λ (z : RelayNode). z.six) rs) ≡ true
relay_listed [] rest n r none at = absurd (none n at)
relay_listed (x ∷ rs) rest zero r none at =
    ap (λ (ip : Ip6). same_ip6 r.six ip || list_any (same_ip6 r.six) (map (λ (z : RelayNode). z.six) rs)) (ap six_of at)
    ∙ ap (λ (b : Bool). b || list_any (same_ip6 r.six) (map (λ (z : RelayNode). z.six) rs)) (same_ip6-self r.six) where
      six_of : Option Node → Ip6
      six_of (Some (relay z)) = z.six
      six_of _ = r.six
relay_listed (x ∷ rs) rest (suc n) r none at = any_right (same_ip6 r.six) (x.six ∷ []) (map (λ (z : RelayNode). z.six) rs) (relay_listed rs rest n r none at)

no_relays : (hs : List NativeNode) (m : ℕ) (r : RelayNode) → slice_get (map native hs) m ≡ Some (relay r) → ⊥
no_relays [] m r at = absurd cc
no_relays (x ∷ hs) zero r at = false≢true (ap (λ (o : Option Node). is_relay_node (unwrap_or o (relay r))) at)
no_relays (x ∷ hs) (suc m) r at = no_relays hs m r at

-- a native stands among the natives
pub native_among : (t : TopologyState) (m : ℕ) (h : NativeNode) → node_at t m ≡ Some (native h)
    → (j : ℕ) × (slice_get (map native t.natives) j ≡ Some (native h))
native_among t m h at =
    let behind_servers = among server t.servers (map nat t.nats ++ (map client t.clients ++ (map relay t.relays ++ map native t.natives))) m
    is_native_node (λ x. refl) at refl in
    let behind_nats = among nat t.nats (map client t.clients ++ (map relay t.relays ++ map native t.natives)) behind_servers.0
    is_native_node (λ x. refl) behind_servers.1 refl in
    let behind_clients = among client t.clients (map relay t.relays ++ map native t.natives) behind_nats.0 is_native_node (λ x. refl)
    behind_nats.1 refl in
    among relay t.relays (map native t.natives) behind_clients.0 is_native_node (λ x. refl) behind_clients.1 refl

module _ (t : TopologyState) (is : IsTopology t) (k m : ℕ) (r : RelayNode) (h : NativeNode) (relay_at : node_at t k ≡ Some (relay r))
    (native_at : node_at t m ≡ Some (native h)) where
  relay_there : list_any (same_ip6 r.six) (map (λ (z : RelayNode). z.six) t.relays) ≡ true
  relay_there =
      let behind_servers = among server t.servers (map nat t.nats ++ (map client t.clients ++ (map relay t.relays ++ map native t.natives))) k
      is_relay_node (λ x. refl) relay_at refl in
      let behind_nats = among nat t.nats (map client t.clients ++ (map relay t.relays ++ map native t.natives)) behind_servers.0
      is_relay_node (λ x. refl) behind_servers.1 refl in
      let behind_clients = among client t.clients (map relay t.relays ++ map native t.natives) behind_nats.0 is_relay_node (λ x. refl)
      behind_nats.1 refl in
      relay_listed t.relays (map native t.natives) behind_clients.0 r (λ i. no_relays t.natives i r) behind_clients.1

  native_there : list_any (same_ip6 h.six) (map (λ (z : NativeNode). z.six) t.natives) ≡ true
  native_there =
      let there = native_among t m h native_at in
      native_listed t.natives there.0 h there.1

  -- the relay's address isn't the native's
  pub sixes_apart : same_ip6 r.six h.six ≡ false
  sixes_apart = by (same_ip6 r.six h.six) refl where
    by : (b : Bool) → same_ip6 r.six h.six ≡ b → b ≡ false
    by false e = refl
    by true e = absurd (clash h.six (map (λ (z : RelayNode). z.six) t.relays) (map (λ (z : NativeNode). z.six) t.natives) is.sixes
        (subst (λ (z : Ip6). list_any (same_ip6 z) (map (λ (y : RelayNode). y.six) t.relays) ≡ true) (same_ip6-true r.six h.six e) relay_there) native_there)
