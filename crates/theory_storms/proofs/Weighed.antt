-- No weight is above 12, so what can follow is bounded by how much there is.
use Rattle.theory_storms.proofs.Words.{AllByRecursion, Bool, BurdenIsBounded, EachIsWeighed, Ep, Fields, Freight, Full, Item, List, Node, None, Option, Send, ServerNode, Some, Span, Step, TopologyState, [], all_joined, arith, by_lines, client, client_packet, cond, count, datagram_weight, entry_weight, false, fields_in, first_of_each, first_passing, freight, freight_weight, is_at, is_echo_reply, is_echo_request, is_global6, is_payload, is_some_server, is_teredo, journal, length, map, message_in, nat, native, node_at, nodes, now, one_output, option_and_then, own_ep, packet_weight, part, relay, relay_mentions, relay_packet, send_weight, server, server_row, server_settings, side_at, six, six_weight, sum, sum_by, sum_by-cons, true, udp, undelivered_items, value_in, waiting_packets, waits, waits_at, waits_from, weight_at, ℕ, ◌&&◌, ◌*◌, ◌+◌, ◌∷◌, ◌≤◌}
use Rattle.client_rules.specs.Bearings as client_bearings

-- WEIGHTS

packet_most : (p : Fields) → packet_weight true p ≤ 12
packet_most p = by_lines (λ (w : ℕ). w ≤ 12) ((true && is_echo_reply (message_in p), 5) ∷ (true, 12) ∷
    (is_echo_request (message_in p) && is_teredo p.src, 6) ∷ (is_echo_request (message_in p) && is_global6 p.src, 2) ∷ []) 1
    ((λ _. omega arith), (λ _. ((λ _. omega arith), (λ _. ((λ _. omega arith), (λ _. ((λ _. omega arith), (λ _. omega arith))))))))

six_most : (p : Fields) → packet_weight false p ≤ 6
six_most p = by_lines (λ (w : ℕ). w ≤ 6) ((is_echo_request (message_in p) && is_teredo p.src, 6) ∷ (is_echo_request (message_in p) && is_global6 p.src, 2)
    ∷ []) 1
    ((λ _. omega arith), (λ _. ((λ _. omega arith), (λ _. omega arith))))

freight_most : (a : Freight) → freight_weight a ≤ 8
freight_most a = by_lines (λ (w : ℕ). w ≤ 8) ((a.indirect && a.origin_at_server, 3) ∷ (a.indirect, 2) ∷ (a.foreign, 8) ∷ (a.for_relay, 7) ∷ []) 1
    ((λ _. omega arith), (λ _. ((λ _. omega arith), (λ _. ((λ _. omega arith), (λ _. ((λ _. omega arith), (λ _. omega arith))))))))

pub datagram_most : (t : TopologyState) (src dst : Ep) (x : List ℕ) → datagram_weight t src dst x ≤ 8
unfolding datagram_weight
datagram_most t src dst x = freight_most (freight t src dst (is_payload x) (value_in x))

send_most : (t : TopologyState) (a : Node) (s : Send) → send_weight t a s ≤ 8
send_most t a s = by (is_some_server t s.to) where
  by : (b : Bool) → cond b 1 (datagram_weight t (own_ep a s.side) s.to s.bytes) ≤ 8
  by true = omega arith
  by false = datagram_most t (own_ep a s.side) s.to s.bytes

-- a server has one output at most
output_most : (t : TopologyState) (a : Node) (x : List ℕ) (sends : List Send) (o : Option Span) → length sends + count o ≤ 1
    → sum_by (send_weight t a) sends + six_weight x o ≤ 8
output_most t a x [] None h = omega arith
output_most t a x [] (Some span) h = let most = six_most (fields_in (part x span)) in omega (arith, most)
output_most t a x (s ∷ []) None h = let most = send_most t a s in omega (arith, most)
output_most t a x (s ∷ []) (Some span) h = absurd (omega (arith, h))
output_most t a x (s ∷ z ∷ more) o h = absurd (omega (arith, h))

pub served_most : (t : TopologyState) (src dst : Ep) (x : List ℕ) (a : ServerNode) → weight_at t src dst x (Some (server a)) ≤ 9
served_most t src dst x a =
    let step : Step = server_row (server_settings a) (side_at (server a) dst) src x in
    let most = output_most t (server a) x step.sends step.six (one_output (server_settings a) (side_at (server a) dst) src x) in
    omega (arith, most)

at_most : (t : TopologyState) (src dst : Ep) (x : List ℕ) (o : Option Node) → weight_at t src dst x o ≤ 12
at_most t src dst x None = let most = datagram_most t src dst x in omega (arith, most)
at_most t src dst x (Some (server a)) = let most = served_most t src dst x a in omega (arith, most)
at_most t src dst x (Some (nat a)) = let most = datagram_most t src dst x in omega (arith, most)
at_most t src dst x (Some (client a)) = let most = datagram_most t src dst x in omega (arith, most)
at_most t src dst x (Some (relay a)) = let most = datagram_most t src dst x in omega (arith, most)
at_most t src dst x (Some (native a)) = let most = datagram_most t src dst x in omega (arith, most)

weight_most : (t : TopologyState) (x : Item) → entry_weight t x ≤ 12
weight_most t (udp src dst x) = at_most t src dst x (option_and_then (node_at t) (first_passing (is_at dst) t))
weight_most t (six None x) = let most = six_most (fields_in x) in omega (arith, most)
weight_most t (six (Some k) x) = packet_most (fields_in x)

-- EACH ENTRY COUNTS ITSELF

packet_least : (to_relay : Bool) (p : Fields) → 1 ≤ packet_weight to_relay p
packet_least to_relay p = first_of_each (λ (w : ℕ). 1 ≤ w)
    ((to_relay && is_echo_reply (message_in p), 5) ∷ (to_relay, 12) ∷ (is_echo_request (message_in p) && is_teredo p.src, 6) ∷
    (is_echo_request (message_in p) && is_global6 p.src, 2) ∷ []) 1
    (omega arith, (omega arith, (omega arith, (omega arith, tt)))) (omega arith)

pub datagram_least : (t : TopologyState) (src dst : Ep) (x : List ℕ) → 1 ≤ datagram_weight t src dst x
unfolding datagram_weight
datagram_least t src dst x =
    let a : Freight = freight t src dst (is_payload x) (value_in x) in
    first_of_each (λ (w : ℕ). 1 ≤ w) ((a.indirect && a.origin_at_server, 3) ∷ (a.indirect, 2) ∷ (a.foreign, 8) ∷ (a.for_relay, 7) ∷ []) 1
    (omega arith, (omega arith, (omega arith, (omega arith, tt)))) (omega arith)

at_least : (t : TopologyState) (src dst : Ep) (x : List ℕ) (o : Option Node) → 1 ≤ weight_at t src dst x o
at_least t src dst x None = datagram_least t src dst x
at_least t src dst x (Some (server a)) = omega arith
at_least t src dst x (Some (nat a)) = datagram_least t src dst x
at_least t src dst x (Some (client a)) = datagram_least t src dst x
at_least t src dst x (Some (relay a)) = datagram_least t src dst x
at_least t src dst x (Some (native a)) = datagram_least t src dst x

pub weight_least : (t : TopologyState) (x : Item) → 1 ≤ entry_weight t x
weight_least t (udp src dst x) = at_least t src dst x (option_and_then (node_at t) (first_passing (is_at dst) t))
weight_least t (six None x) = packet_least false (fields_in x)
weight_least t (six (Some k) x) = packet_least true (fields_in x)

pub each_is_weighed : EachIsWeighed
each_is_weighed t x = record { least = weight_least t x; most = weight_most t x }

-- SUMS

all_weigh : (t : TopologyState) (xs : List Item) → sum_by (entry_weight t) xs ≤ 12 * length xs
all_weigh t [] = omega arith
all_weigh t (x ∷ xs) =
    let first = weight_most t x in
    let rest = all_weigh t xs in
    let whole = sum_by-cons (entry_weight t) x xs in
    omega (arith, first, rest, whole)

abbrev Few : ℕ → Type 0
Few w = w ≤ 12

sum_most : (ws : List ℕ) → AllByRecursion Few ws → sum ws ≤ 12 * length ws
sum_most [] a = omega arith
sum_most (w ∷ ws) a =
    let first = a.0 in
    let rest = sum_most ws a.1 in
    let whole = sum_by-cons (λ (n : ℕ). n) w ws in
    omega (arith, first, rest, whole)

clients_few : (xs : List (List ℕ)) → AllByRecursion Few (map client_packet xs)
clients_few [] = tt
clients_few (x ∷ xs) = (omega arith, clients_few xs)

relay_few : (x : List ℕ) → relay_packet x ≤ 12
relay_few x = by (is_echo_reply (message_in (fields_in x))) where
  by : (b : Bool) → cond b 1 8 ≤ 12
  by true = omega arith
  by false = omega arith

relays_few : (xs : List (List ℕ)) → AllByRecursion Few (map relay_packet xs)
relays_few [] = tt
relays_few (x ∷ xs) = (relay_few x, relays_few xs)

node_few : (H : List Full) (n : ℕ) (a : Node) → AllByRecursion Few (waits_at H n a)
node_few H n (client c) = clients_few (waiting_packets (client_bearings.mentions (journal n H).entries) (now H))
node_few H n (relay r) = relays_few (waiting_packets (relay_mentions (journal n H).entries) (now H))
node_few H n (server a) = tt
node_few H n (nat a) = tt
node_few H n (native a) = tt

nodes_few : (H : List Full) (n : ℕ) (xs : List Node) → AllByRecursion Few (waits_from H n xs)
nodes_few H n [] = tt
nodes_few H n (a ∷ rest) = all_joined Few (waits_at H n a) (waits_from H (n + 1) rest) (node_few H n a) (nodes_few H (n + 1) rest)

pub burden_is_bounded : BurdenIsBounded
burden_is_bounded t H =
    let first = all_weigh t (undelivered_items H) in
    let second = sum_most (waits t H) (nodes_few H 0 (nodes t)) in
    omega (arith, first, second)
