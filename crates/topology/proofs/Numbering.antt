-- The places of nodes of one kind among all nodes.
use Rattle.topology.proofs.Words.{Bool, ClientNode, Ep, Ip6, List, NatNode, NativeNode, Node, None, Option, RelayNode, ServerNode, Some, TopologyState, [], add_assoc, any_kind, ap, arith, client, cond, false, first_passing, has_host, is_at, is_behind, is_client_of, is_named, is_nat, is_native, is_relay, is_server, length, length-map, map, name_text, named, nat, nat_eq, native, nodes, option_map, option_or, pointwise, position, position_from, position_from-zero, refl, relay, server, sym, true, zero-add, ℕ, ◌&&◌, ◌++◌, ◌+◌, ◌==◌, ◌∙◌, ◌∷◌, ◌≡◌}

pub at_front : {A : Type 0} (p : A → Bool) (xs : List A) → position p xs ≡ position_from p 0 xs
at_front p xs = position_from-zero p xs

from_append : {A : Type 0} (p : A → Bool) (i : ℕ) (xs ys : List A) → position_from p i (xs ++ ys) ≡ option_or (position_from p i xs) (position_from p (i + length xs) ys)
from_append p i [] ys = ap (λ n. position_from p n ys) (omega arith)
from_append p i (x ∷ xs) ys =
    let more = from_append p (i + 1) xs ys ∙ ap (λ n. option_or (position_from p (i + 1) xs) (position_from p n ys)) (omega arith) in
    elim (p x) as (λ b. cond b (Some i) (position_from p (i + 1) (xs ++ ys)) ≡ option_or (cond b (Some i) (position_from p (i + 1) xs)) (position_from p (i + length (x ∷ xs)) ys)) [ true ↦ refl | false ↦ more ]

from_map : {A B : Type 0} (p : B → Bool) (f : A → B) (i : ℕ) (xs : List A) → position_from p i (map f xs) ≡ position_from (λ x. p (f x)) i xs
from_map p f i [] = refl
from_map p f i (x ∷ xs) = ap (cond (p (f x)) (Some i)) (from_map p f (i + 1) xs)

pub from_none : {A : Type 0} (i : ℕ) (xs : List A) → position_from (λ x. false) i xs ≡ None
from_none i [] = refl
from_none i (x ∷ xs) = from_none (i + 1) xs

from_at : {A : Type 0} (p : A → Bool) (i j : ℕ) (xs : List A) → position_from p (i + j) xs ≡ option_map (λ k. i + k) (position_from p j xs)
from_at p i j [] = refl
from_at p i j (x ∷ xs) =
    let more = ap (λ n. position_from p n xs) (add_assoc i j 1) ∙ from_at p i (j + 1) xs in
    elim (p x) as (λ b. cond b (Some (i + j)) (position_from p (i + j + 1) xs) ≡ option_map (λ k. i + k) (cond b (Some j) (position_from p (j + 1) xs))) [ true ↦ refl | false ↦ more ]

pub behind : {A : Type 0} (p : A → Bool) (i : ℕ) (xs : List A) → position_from p i xs ≡ option_map (λ k. i + k) (position p xs)
behind p i xs = ap (λ n. position_from p n xs) (omega arith) ∙ from_at p i 0 xs ∙ ap (option_map (λ k. i + k)) (sym (at_front p xs))

-- a test of all nodes, list by list
pub parts : (p : Node → Bool) (t : TopologyState) → position p (nodes t)
    ≡ option_or (position_from (λ (a : ServerNode). p (server a)) 0 t.servers)
    (option_or (position_from (λ (a : NatNode). p (nat a)) (length t.servers) t.nats)
    (option_or (position_from (λ (c : ClientNode). p (client c)) (length t.servers + length t.nats) t.clients)
    (option_or (position_from (λ (r : RelayNode). p (relay r)) (length t.servers + length t.nats + length t.clients) t.relays)
    (position_from (λ (h : NativeNode). p (native h)) (length t.servers + length t.nats + length t.clients + length t.relays) t.natives))))
parts p t =
    let from = λ (A : Type 0) (f : A → Node) (i : ℕ) (xs : List A) (ys : List Node).
    from_append p i (map f xs) ys ∙ ap (λ o. option_or o (position_from p (i + length (map f xs)) ys)) (from_map p f i xs) ∙ ap (λ n. option_or (position_from (λ x. p (f x)) i xs) (position_from p (i + n) ys)) (length-map xs f) in
    at_front p (nodes t)
    ∙ from ServerNode server 0 t.servers _
    ∙ ap (option_or (position_from (λ (a : ServerNode). p (server a)) 0 t.servers)) (
    ap (λ n. position_from p n (map nat t.nats ++ (map client t.clients ++ (map relay t.relays ++ map native t.natives)))) (zero-add (length t.servers))
    ∙ from NatNode nat (length t.servers) t.nats _
    ∙ ap (option_or (position_from (λ (a : NatNode). p (nat a)) (length t.servers) t.nats)) (
    from ClientNode client (length t.servers + length t.nats) t.clients _
    ∙ ap (option_or (position_from (λ (c : ClientNode). p (client c)) (length t.servers + length t.nats) t.clients)) (
    from RelayNode relay (length t.servers + length t.nats + length t.clients) t.relays _
    ∙ ap (option_or (position_from (λ (r : RelayNode). p (relay r)) (length t.servers + length t.nats + length t.clients) t.relays)) (from_map p native (length t.servers + length t.nats + length t.clients + length t.relays) t.natives))))

pub or_none : (o : Option ℕ) → option_or o None ≡ o
or_none None = refl
or_none (Some x) = refl

-- the node that datagrams to an endpoint come to: a server, else a NAT, else a relay
pub at_an_endpoint : (dst : Ep) (t : TopologyState) → first_passing (is_at dst) t
    ≡ option_or (position (λ (a : ServerNode). is_at dst (server a)) t.servers)
    (option_or (option_map (λ k. length t.servers + k) (position (λ (a : NatNode). is_at dst (nat a)) t.nats))
    (option_map (λ k. length t.servers + length t.nats + length t.clients + k) (position (λ (r : RelayNode). is_at dst (relay r)) t.relays)))
at_an_endpoint dst t =
    parts (is_at dst) t
    ∙ rw (
      sym (at_front (λ (a : ServerNode). is_at dst (server a)) t.servers),
      behind (λ (a : NatNode). is_at dst (nat a)) (length t.servers) t.nats,
      from_none (length t.servers + length t.nats) t.clients,
      behind (λ (r : RelayNode). is_at dst (relay r)) (length t.servers + length t.nats + length t.clients) t.relays,
      from_none (length t.servers + length t.nats + length t.clients + length t.relays) t.natives,
      or_none,
    ) refl

-- a client behind a NAT
pub behind_a_nat : (n : ℕ) (inside : Ep) (t : TopologyState) → first_passing (is_behind n inside) t
    ≡ option_map (λ k. length t.servers + length t.nats + k) (position (λ (c : ClientNode). is_behind n inside (client c)) t.clients)
behind_a_nat n inside t =
    parts (is_behind n inside) t
    ∙ rw (
      from_none 0 t.servers,
      from_none (length t.servers) t.nats,
      behind (λ (c : ClientNode). is_behind n inside (client c)) (length t.servers + length t.nats) t.clients,
      from_none (length t.servers + length t.nats + length t.clients) t.relays,
      from_none (length t.servers + length t.nats + length t.clients + length t.relays) t.natives,
      or_none,
    ) refl

-- a native host
pub with_an_address : (ip : Ip6) (t : TopologyState) → first_passing (is_native ip) t
    ≡ option_map (λ k. length t.servers + length t.nats + length t.clients + length t.relays + k) (position (λ (h : NativeNode). is_native ip (native h)) t.natives)
with_an_address ip t =
    parts (is_native ip) t
    ∙ rw (
      from_none 0 t.servers,
      from_none (length t.servers) t.nats,
      from_none (length t.servers + length t.nats) t.clients,
      from_none (length t.servers + length t.nats + length t.clients) t.relays,
      behind (λ (h : NativeNode). is_native ip (native h)) (length t.servers + length t.nats + length t.clients + length t.relays) t.natives,
    ) refl

abbrev server_place : TopologyState → List ℕ → Option ℕ
server_place t text = position (λ (a : ServerNode). pointwise nat_eq (name_text a.name) text) t.servers

abbrev nat_place : TopologyState → List ℕ → Option ℕ
nat_place t text = option_map (λ k. length t.servers + k) (position (λ (a : NatNode). pointwise nat_eq (name_text a.name) text) t.nats)

abbrev client_place : TopologyState → List ℕ → Option ℕ
client_place t text = option_map (λ k. length t.servers + length t.nats + k) (position (λ (c : ClientNode). pointwise nat_eq (name_text c.name) text) t.clients)

abbrev relay_place : TopologyState → List ℕ → Option ℕ
relay_place t text = option_map (λ k. length t.servers + length t.nats + length t.clients + k) (position (λ (r : RelayNode). pointwise nat_eq (name_text r.name) text) t.relays)

abbrev native_place : TopologyState → List ℕ → Option ℕ
native_place t text = option_map (λ k. length t.servers + length t.nats + length t.clients + length t.relays + k) (position (λ (h : NativeNode). pointwise nat_eq (name_text h.name) text) t.natives)

-- a client or native host by its name
pub host_at : (t : TopologyState) (text : List ℕ) → named has_host t text ≡ option_or (client_place t text) (native_place t text)
unfolding named
host_at t text =
    parts (λ node. has_host (Some node) && is_named text node) t
    ∙ rw (
      from_none 0 t.servers,
      from_none (length t.servers) t.nats,
      from_none (length t.servers + length t.nats + length t.clients) t.relays,
      behind (λ (c : ClientNode). pointwise nat_eq (name_text c.name) text) (length t.servers + length t.nats) t.clients,
      behind (λ (h : NativeNode). pointwise nat_eq (name_text h.name) text)
          (length t.servers + length t.nats + length t.clients + length t.relays) t.natives,
    ) refl

pub nat_numbered : (t : TopologyState) (text : List ℕ) → named is_nat t text ≡ nat_place t text
unfolding named
nat_numbered t text =
    parts (λ node. is_nat (Some node) && is_named text node) t
    ∙ rw (
      from_none 0 t.servers,
      from_none (length t.servers + length t.nats) t.clients,
      from_none (length t.servers + length t.nats + length t.clients) t.relays,
      from_none (length t.servers + length t.nats + length t.clients + length t.relays) t.natives,
      behind (λ (a : NatNode). pointwise nat_eq (name_text a.name) text) (length t.servers) t.nats,
      or_none,
    ) refl

pub server_numbered : (t : TopologyState) (text : List ℕ) → named is_server t text ≡ server_place t text
unfolding named
server_numbered t text =
    parts (λ node. is_server (Some node) && is_named text node) t
    ∙ rw (
      from_none (length t.servers) t.nats,
      from_none (length t.servers + length t.nats) t.clients,
      from_none (length t.servers + length t.nats + length t.clients) t.relays,
      from_none (length t.servers + length t.nats + length t.clients + length t.relays) t.natives,
      sym (at_front (λ (a : ServerNode). pointwise nat_eq (name_text a.name) text) t.servers),
      or_none,
    ) refl

pub relay_numbered : (t : TopologyState) (text : List ℕ) → named is_relay t text ≡ relay_place t text
unfolding named
relay_numbered t text =
    parts (λ node. is_relay (Some node) && is_named text node) t
    ∙ rw (
      from_none 0 t.servers,
      from_none (length t.servers) t.nats,
      from_none (length t.servers + length t.nats) t.clients,
      from_none (length t.servers + length t.nats + length t.clients + length t.relays) t.natives,
      behind (λ (r : RelayNode). pointwise nat_eq (name_text r.name) text) (length t.servers + length t.nats + length t.clients) t.relays,
      or_none,
    ) refl

pub client_at : (t : TopologyState) (n : ℕ) (text : List ℕ) → named (is_client_of n) t text
    ≡ option_map (λ k. length t.servers + length t.nats + k) (position (λ (c : ClientNode). (c.nat == n) && pointwise nat_eq (name_text c.name) text) t.clients)
unfolding named
client_at t n text =
    parts (λ node. is_client_of n (Some node) && is_named text node) t
    ∙ rw (
      from_none 0 t.servers,
      from_none (length t.servers) t.nats,
      from_none (length t.servers + length t.nats + length t.clients) t.relays,
      from_none (length t.servers + length t.nats + length t.clients + length t.relays) t.natives,
      behind (λ (c : ClientNode). (c.nat == n) && pointwise nat_eq (name_text c.name) text) (length t.servers + length t.nats) t.clients,
      or_none,
    ) refl

pub any_at : (t : TopologyState) (text : List ℕ) → named any_kind t text ≡ option_or (server_place t text) (option_or (nat_place t text) (option_or (client_place t text) (option_or (relay_place t text) (native_place t text))))
unfolding named
any_at t text =
    parts (λ node. any_kind (Some node) && is_named text node) t
    ∙ rw (
      sym (at_front (λ (a : ServerNode). pointwise nat_eq (name_text a.name) text) t.servers),
      behind (λ (a : NatNode). pointwise nat_eq (name_text a.name) text) (length t.servers) t.nats,
      behind (λ (c : ClientNode). pointwise nat_eq (name_text c.name) text) (length t.servers + length t.nats) t.clients,
      behind (λ (r : RelayNode). pointwise nat_eq (name_text r.name) text) (length t.servers + length t.nats + length t.clients) t.relays,
      behind (λ (h : NativeNode). pointwise nat_eq (name_text h.name) text)
          (length t.servers + length t.nats + length t.clients + length t.relays) t.natives,
    ) refl
