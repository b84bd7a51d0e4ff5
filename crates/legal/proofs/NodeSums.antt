-- How much there is at the nodes of a topology, where each client and each relay has so much at most, and no other node anything.
use Rattle.legal.proofs.Words.{List, Node, Some, TopologyState, [], ap, arith, client, length, map, nat, native, node_at, nodes, refl, relay, server, slice_get, subst, suc, ℕ, ◌*◌, ◌++◌, ◌+◌, ◌∷◌, ◌≡◌, ◌≤◌}
use Rattle.std.proofs.Common.{length-append}

-- m at most
abbrev pub most : ℕ → Node → ℕ
most m (client c) = m
most m (relay r) = m
most m _ = 0

abbrev most_of : ℕ → List Node → ℕ
most_of m [] = 0
most_of m (a ∷ rest) = most m a + most_of m rest

most_append : (m : ℕ) (xs ys : List Node) → most_of m (xs ++ ys) ≡ most_of m xs + most_of m ys
most_append m [] ys = omega arith
most_append m (x ∷ xs) ys = let rest : most_of m (xs ++ ys) ≡ most_of m xs + most_of m ys = most_append m xs ys in omega (arith, rest)

most_map : {A : Type 0} (m : ℕ) (f : A → Node) (each : ℕ) (xs : List A) → ((x : A) → most m (f x) ≡ each) → most_of m (map f xs) ≡ length xs * each
most_map m f each [] same = omega arith
most_map m f each (x ∷ xs) same =
    let rest : most_of m (map f xs) ≡ length xs * each = most_map m f each xs same in
    let one : most m (f x) ≡ each = same x in
    omega (arith, rest, one)

most_nodes : (m : ℕ) (t : TopologyState) → most_of m (nodes t) ≡ length t.clients * m + length t.relays * m
most_nodes m t =
    let servers : most_of m (map server t.servers) ≡ length t.servers * 0 = most_map m server 0 t.servers (λ x. refl) in
    let nats : most_of m (map nat t.nats) ≡ length t.nats * 0 = most_map m nat 0 t.nats (λ x. refl) in
    let clients : most_of m (map client t.clients) ≡ length t.clients * m = most_map m client m t.clients (λ x. refl) in
    let relays : most_of m (map relay t.relays) ≡ length t.relays * m = most_map m relay m t.relays (λ x. refl) in
    let natives : most_of m (map native t.natives) ≡ length t.natives * 0 = most_map m native 0 t.natives (λ x. refl) in
    omega (
      arith,
      servers,
      nats,
      clients,
      relays,
      natives,
      most_append m (map server t.servers) (map nat t.nats ++ (map client t.clients ++ (map relay t.relays ++ map native t.natives))),
      most_append m (map nat t.nats) (map client t.clients ++ (map relay t.relays ++ map native t.natives)),
      most_append m (map client t.clients) (map relay t.relays ++ map native t.natives),
      most_append m (map relay t.relays) (map native t.natives),
    )

-- what is at each node, and what is at the nodes from one on, each with its number
module _ {A : Type 0} (m : ℕ) (t : TopologyState) (at : ℕ → Node → List A) (from : ℕ → List Node → List A) (none : (n : ℕ) → from n [] ≡ [])
    (more : (n : ℕ) (a : Node) (rest : List Node) → from n (a ∷ rest) ≡ at n a ++ from (n + 1) rest)
    (each : (n : ℕ) (a : Node) → node_at t n ≡ Some a → length (at n a) ≤ most m a) where
  among : (n : ℕ) (rest : List Node) → ((k : ℕ) → slice_get (nodes t) (n + k) ≡ slice_get rest k) → length (from n rest) ≤ most_of m rest
  among n [] same = let empty : length (from n []) ≡ 0 = ap (λ (xs : List A). length xs) (none n) in omega (arith, empty)
  among n (a ∷ rest) same =
      let zeroth : n + 0 ≡ n = omega arith in
      let here : node_at t n ≡ Some a = subst (λ (k : ℕ). slice_get (nodes t) k ≡ Some a) zeroth (same 0) in
      let tail : (k : ℕ) → slice_get (nodes t) (n + 1 + k) ≡ slice_get rest k = λ (k : ℕ).
      let moved : n + suc k ≡ n + 1 + k = omega arith in subst (λ (j : ℕ). slice_get (nodes t) j ≡ slice_get rest k) moved (same (suc k)) in
      let others : length (from (n + 1) rest) ≤ most_of m rest = among (n + 1) rest tail in
      let one : length (at n a) ≤ most m a = each n a here in
      let both : length (from n (a ∷ rest)) ≡ length (at n a ++ from (n + 1) rest) = ap (λ (xs : List A). length xs) (more n a rest) in
      omega (arith, others, one, both, length-append (at n a) (from (n + 1) rest))

  -- so at all
  pub at_most : length (from 0 (nodes t)) ≤ length t.clients * m + length t.relays * m
  at_most =
      let all : length (from 0 (nodes t)) ≤ most_of m (nodes t) = among 0 (nodes t)
      (λ (k : ℕ). let same : 0 + k ≡ k = omega arith in ap (slice_get (nodes t)) same) in
      omega (arith, all, most_nodes m t)
