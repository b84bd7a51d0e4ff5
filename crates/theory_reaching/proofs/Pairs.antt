-- A word on two nodes is that of a table: that of two clients, of a client and a native host, or of a native host and a client.
use Rattle.theory_reaching.proofs.Words.{Bool, ClientNode, Full, Lab, List, NativeNode, Node, None, Option, Reach, RelayNode, Relayed, Some, TwoClients, ap, between_clients_row, client, cond, false, false≢true, from_native_row, is_client_node, is_native_node, is_some, nat, native, node_at, option_map, reach_between, reach_of, refl, relay, relay_at, relayed, server, subst, sym, to_native_row, true, two_clients, unwrap_or, ℕ, ◌==◌, ◌∙◌, ◌≡◌}

-- which table said it
pub data SaidBy (lab : Lab) (H : List Full) (n m : ℕ) (a b : Node) (said : Reach) : Type 0 where
  between_clients : (c d : ClientNode) → a ≡ client c → b ≡ client d → between_clients_row (two_clients lab H n m c d) ≡ said → SaidBy lab H n m a b said
  to_native : (c : ClientNode) (h : NativeNode) (r : RelayNode) → a ≡ client c → b ≡ native h → relay_at lab.topology h.relay ≡ Some r
      → to_native_row (relayed lab H n c h r) ≡ said → SaidBy lab H n m a b said
  from_native : (h : NativeNode) (c : ClientNode) (r : RelayNode) → a ≡ native h → b ≡ client c → relay_at lab.topology h.relay ≡ Some r
      → from_native_row (relayed lab H m c h r) ≡ said → SaidBy lab H n m a b said

-- a word on two hosts after a history
pub record SaidOfPair : Type 0 where
  pub lab : Lab
  pub H : List Full
  pub n : ℕ
  pub m : ℕ
  pub said : Reach

module _ (said_of_pair : SaidOfPair) where
  open said_of_pair use {lab, H, n, m, said}

  nobody : {A : Type 0} → None ≡ Some said → A
  nobody e = absurd (false≢true (ap (λ (o : Option Reach). is_some o) e))

  the_word : (w : Reach) → Some w ≡ Some said → w ≡ said
  the_word w e = ap (λ (o : Option Reach). unwrap_or o w) e

  -- two clients
  two : (c d : ClientNode) (same : Bool) → cond same None (Some (between_clients_row (two_clients lab H n m c d))) ≡ Some said
      → SaidBy lab H n m (client c) (client d) said
  two c d true e = nobody e
  two c d false e = between_clients c d refl refl (the_word (between_clients_row (two_clients lab H n m c d)) e)

  -- a client and a native
  out : (c : ClientNode) (h : NativeNode) (o : Option RelayNode) → relay_at lab.topology h.relay ≡ o
      → option_map (λ (r : RelayNode). to_native_row (relayed lab H n c h r)) o ≡ Some said → SaidBy lab H n m (client c) (native h) said
  out c h None at e = nobody e
  out c h (Some r) at e = to_native c h r refl refl at (the_word (to_native_row (relayed lab H n c h r)) e)

  -- a native and a client
  back : (h : NativeNode) (c : ClientNode) (o : Option RelayNode) → relay_at lab.topology h.relay ≡ o
      → option_map (λ (r : RelayNode). from_native_row (relayed lab H m c h r)) o ≡ Some said → SaidBy lab H n m (native h) (client c) said
  back h c None at e = nobody e
  back h c (Some r) at e = from_native h c r refl refl at (the_word (from_native_row (relayed lab H m c h r)) e)

  of_client : (c : ClientNode) (b : Node) → reach_between lab H n m (Some (client c)) (Some b) ≡ Some said → SaidBy lab H n m (client c) b said
  of_client c (server b) e = nobody e
  of_client c (nat b) e = nobody e
  of_client c (client d) e = two c d (n == m) e
  of_client c (relay b) e = nobody e
  of_client c (native h) e = out c h (relay_at lab.topology h.relay) refl e

  of_native : (h : NativeNode) (b : Node) → reach_between lab H n m (Some (native h)) (Some b) ≡ Some said → SaidBy lab H n m (native h) b said
  of_native h (server b) e = nobody e
  of_native h (nat b) e = nobody e
  of_native h (client c) e = back h c (relay_at lab.topology h.relay) refl e
  of_native h (relay b) e = nobody e
  of_native h (native b) e = nobody e

  of_nodes : (a b : Node) → reach_between lab H n m (Some a) (Some b) ≡ Some said → SaidBy lab H n m a b said
  of_nodes (server a) b e = nobody e
  of_nodes (nat a) b e = nobody e
  of_nodes (client c) b e = of_client c b e
  of_nodes (relay a) b e = nobody e
  of_nodes (native h) b e = of_native h b e

  -- the word on node n, which is a, and node m, which is b
  pub said_by : (a b : Node) → node_at lab.topology n ≡ Some a → node_at lab.topology m ≡ Some b → reach_of lab H n m ≡ Some said
      → SaidBy lab H n m a b said
  unfolding reach_of
  said_by a b at to e = of_nodes a b (
      ap (λ (o : Option Node). reach_between lab H n m o (Some b)) (sym at)
      ∙ ap (λ (o : Option Node). reach_between lab H n m (node_at lab.topology n) o) (sym to)
      ∙ e)

-- WHAT IS SEEN

pub no_native : {c : ClientNode} {h : NativeNode} → client c ≡ native h → ⊥
no_native e = false≢true (ap is_native_node e)

pub no_client : {h : NativeNode} {c : ClientNode} → native h ≡ client c → ⊥
no_client e = false≢true (ap is_client_node e)

abbrev client_or : ClientNode → Node → ClientNode
client_or c (client d) = d
client_or c _ = c

pub client_is : {c d : ClientNode} → client c ≡ client d → c ≡ d
client_is {c} e = ap (client_or c) e

abbrev native_or : NativeNode → Node → NativeNode
native_or h (native g) = g
native_or h _ = h

pub native_is : {h g : NativeNode} → native h ≡ native g → h ≡ g
native_is {h} e = ap (native_or h) e

module _ (said_of_pair : SaidOfPair) where
  open said_of_pair use {lab, H, n, m, said}

  -- a word on two clients says this of what is seen of them, where each row with the word does
  pub of_clients : (P : TwoClients → Type 0) → ((a : TwoClients) → between_clients_row a ≡ said → P a) → (c d : ClientNode)
      → node_at lab.topology n ≡ Some (client c) → node_at lab.topology m ≡ Some (client d) → reach_of lab H n m ≡ Some said → P (two_clients lab H n m c d)
  of_clients P says c d at to e = by (said_by said_of_pair (client c) (client d) at to e) where
    by : SaidBy lab H n m (client c) (client d) said → P (two_clients lab H n m c d)
    by (between_clients a b same other w) =
        subst (λ (z : ClientNode). P (two_clients lab H n m z d)) (sym (client_is same))
        (subst (λ (z : ClientNode). P (two_clients lab H n m a z)) (sym (client_is other)) (says (two_clients lab H n m a b) w))
    by (to_native a h r same other through w) = absurd (no_native other)
    by (from_native h a r same other through w) = absurd (no_native same)

  -- so does one on a client and a native host, which has a relay then
  pub of_client_and_native : (P : Relayed → Type 0) → ((a : Relayed) → to_native_row a ≡ said → P a) → (c : ClientNode) (h : NativeNode)
      → node_at lab.topology n ≡ Some (client c) → node_at lab.topology m ≡ Some (native h) → reach_of lab H n m ≡ Some said
      → (r : RelayNode) × (relay_at lab.topology h.relay ≡ Some r) × P (relayed lab H n c h r)
  of_client_and_native P says c h at to e = by (said_by said_of_pair (client c) (native h) at to e) where
    by : SaidBy lab H n m (client c) (native h) said → (r : RelayNode) × (relay_at lab.topology h.relay ≡ Some r) × P (relayed lab H n c h r)
    by (between_clients a b same other w) = absurd (no_client other)
    by (from_native a b r same other through w) = absurd (no_native same)
    by (to_native a b r same other through w) = (
      r,
      ap (λ (z : NativeNode). relay_at lab.topology z.relay) (native_is other) ∙ through,
      subst (λ (z : NativeNode). P (relayed lab H n c z r)) (sym (native_is other))
          (subst (λ (z : ClientNode). P (relayed lab H n z b r)) (sym (client_is same)) (says (relayed lab H n a b r) w)),
    )

  -- and one on a native host and a client
  pub of_native_and_client : (P : Relayed → Type 0) → ((a : Relayed) → from_native_row a ≡ said → P a) → (h : NativeNode) (c : ClientNode)
      → node_at lab.topology n ≡ Some (native h) → node_at lab.topology m ≡ Some (client c) → reach_of lab H n m ≡ Some said
      → (r : RelayNode) × (relay_at lab.topology h.relay ≡ Some r) × P (relayed lab H m c h r)
  of_native_and_client P says h c at to e = by (said_by said_of_pair (native h) (client c) at to e) where
    by : SaidBy lab H n m (native h) (client c) said → (r : RelayNode) × (relay_at lab.topology h.relay ≡ Some r) × P (relayed lab H m c h r)
    by (between_clients a b same other w) = absurd (no_client same)
    by (to_native a b r same other through w) = absurd (no_client same)
    by (from_native a b r same other through w) = (
      r,
      ap (λ (z : NativeNode). relay_at lab.topology z.relay) (native_is same) ∙ through,
      subst (λ (z : NativeNode). P (relayed lab H m c z r)) (sym (native_is same))
          (subst (λ (z : ClientNode). P (relayed lab H m z a r)) (sym (client_is other)) (says (relayed lab H m b a r) w)),
    )
