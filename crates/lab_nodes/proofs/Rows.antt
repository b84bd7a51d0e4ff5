-- A client of a topology keeps to the rules for clients.
use Rattle.lab_nodes.proofs.Words.{AllByRecursion, ClientNode, IsClient, IsSettings, IsTopology, List, Node, None, Option, Some, TopologyState, [], ap, client, client_settings, false≢true, is_some, map, nat, native, node_at, option_and_then, refl, relay, same_Some, server, slice_get, subst, suc, sym, zero, ℕ, ◌++◌, ◌∙◌, ◌∷◌, ◌≡◌}

-- NODES OF ONE KIND

-- the row of a client, if it is one
abbrev as_row : Node → Option ClientNode
as_row (client c) = Some c
as_row _ = None

-- a client among other rows is among those behind them
skip : {A : Type 0} → (f : A → Node) (xs : List A) (ys : List Node) (n : ℕ) (c : ClientNode) → ((x : A) → f x ≡ client c → ⊥) → slice_get (map f xs ++ ys) n ≡ Some (client c)
    → (m : ℕ) × (slice_get ys m ≡ Some (client c))
skip f [] ys n c other e = (n, e)
skip f (x ∷ xs) ys zero c other e = absurd (other x (same_Some (f x) (client c) e))
skip f (x ∷ xs) ys (suc n) c other e = skip f xs ys n c other e

not_client : {A : Type 0} → (f : A → Node) → ((x : A) → as_row (f x) ≡ None) → (c : ClientNode) (x : A) → f x ≡ client c → ⊥
not_client f none c x e = false≢true (ap (λ (o : Option ClientNode). is_some o) (sym (none x) ∙ ap as_row e))

-- what holds of all clients holds of one among the rows from the clients on
among : (P : ClientNode → Type 0) (cs : List ClientNode) (ys : List Node) (n : ℕ) (c : ClientNode) → AllByRecursion P cs
    → ((m : ℕ) → slice_get ys m ≡ Some (client c) → ⊥) → slice_get (map client cs ++ ys) n ≡ Some (client c) → P c
among P [] ys n c all none e = absurd (none n e)
among P (x ∷ cs) ys zero c all none e = subst P (same_Some x c (ap (λ (o : Option Node). option_and_then as_row o) e)) all.0
among P (x ∷ cs) ys (suc n) c all none e = among P cs ys n c all.1 none e

no_more : {A : Type 0} → (f : A → Node) (xs : List A) (n : ℕ) (c : ClientNode) → ((x : A) → f x ≡ client c → ⊥) → slice_get (map f xs) n ≡ Some (client c) → ⊥
no_more f [] n c other e = false≢true (ap (λ (o : Option Node). is_some o) e)
no_more f (x ∷ xs) zero c other e = other x (same_Some (f x) (client c) e)
no_more f (x ∷ xs) (suc n) c other e = no_more f xs n c other e

-- a client of the topology keeps to the rules for clients
pub client_rules : (t : TopologyState) (n : ℕ) (c : ClientNode) → IsTopology t → node_at t n ≡ Some (client c) → IsClient t c
client_rules t n c rules e =
    let past_servers = skip server t.servers _ n c (not_client server (λ x. refl) c) e in
    let past_nats = skip nat t.nats _ past_servers.0 c (not_client nat (λ x. refl) c) past_servers.1 in
    among (IsClient t) t.clients (map relay t.relays ++ map native t.natives) past_nats.0 c rules.each_client
    (λ m h. let past = skip relay t.relays (map native t.natives) m c (not_client relay (λ x. refl) c) h in no_more native t.natives past.0 c (not_client native (λ x. refl) c) past.1)
    past_nats.1

-- so it can be set up
pub is_settings : (t : TopologyState) (n : ℕ) (c : ClientNode) → IsTopology t → node_at t n ≡ Some (client c) → IsSettings (client_settings t c)
is_settings t n c rules e = let r = client_rules t n c rules e in record { least = r.refresh.least; order = r.refresh.order }
