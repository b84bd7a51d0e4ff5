-- How many due moments there are: at most 256 peers of each client and relay, and one moment more of each client.
use Rattle.legal.proofs.Words.{Bool, Full, Grown, Ip6, IsOfClient, IsOfRelay, IsTopology, Lab, List, Mention, Node, None, Option, PEERS_MAX, Peer, Some, [], all_due, arith, client, client_rules_journal_has_few, client_settings, cond, due_moments, due_of, false, flat_map, is_none, journal, known, length, listed, nat, native, node_at, nodes, now, option_to_list, peers_due, qualification, refl, relay, relay_mentions, relay_rules_journal_has_few, relay_settings, server, true, waits_until, ℕ, ◌*◌, ◌+◌, ◌∷◌, ◌≡◌, ◌≤◌}
use Rattle.std.proofs.Common.{length-append}
use Rattle.client_rules.specs.Bearings as client_bearings
use Rattle.legal.proofs.Journals.{of_client, of_relay}
use Rattle.legal.proofs.NodeSums.{most, at_most}

-- OF PEERS

one_each : (f : Ip6 → Peer) (ps : List Ip6) → length (flat_map (λ (p : Ip6). waits_until (f p)) ps) ≤ length ps
one_each f [] = omega arith
one_each f (p ∷ ps) =
    let rest : length (flat_map (λ (q : Ip6). waits_until (f q)) ps) ≤ length ps = one_each f ps in
    let one : length (waits_until (f p)) ≤ 1 = at_most_one (is_none (f p).waiting) in
    omega (arith, rest, one, length-append (waits_until (f p)) (flat_map (λ (q : Ip6). waits_until (f q)) ps))
  where
    at_most_one : (b : Bool) → length (cond b [] (due_of (f p) ∷ [])) ≤ 1
    at_most_one true = omega arith
    at_most_one false = omega arith

few_peers : (j : List Mention) (m : ℕ) → length (listed j m) ≤ PEERS_MAX → length (peers_due j m) ≤ 256
few_peers j m few = let each : length (peers_due j m) ≤ length (listed j m) = one_each (known j m) (listed j m) in omega (arith, each, few)

-- OF NODES

-- those of 64 clients and 4 relays
abbrev pub most_due : ℕ
most_due = 17476

few_moments : (lab : Lab) (H : List Full) (n : ℕ) (a : Node) → Grown lab H → node_at lab.topology n ≡ Some a → length (due_moments lab H n a) ≤ most 257 a
few_moments lab H n (server a) g there = omega arith
few_moments lab H n (nat a) g there = omega arith
few_moments lab H n (client c) g there =
    let is : IsOfClient (client_settings lab.topology c) (journal n H) (now H) = of_client lab H n c g there in
    let peers : length (peers_due (client_bearings.mentions (journal n H).entries) (now H)) ≤ 256 =
    few_peers (client_bearings.mentions (journal n H).entries) (now H)
    (client_rules_journal_has_few (client_settings lab.topology c) (journal n H) (now H) is.journal is.moments) in
    let o : Option ℕ = (qualification (client_settings lab.topology c) (journal n H)).due in
    let one : length (option_to_list o) ≤ 1 = at_most_one o in
    omega (arith, peers, one, length-append (option_to_list o) (peers_due (client_bearings.mentions (journal n H).entries) (now H)))
  where
    at_most_one : (o : Option ℕ) → length (option_to_list o) ≤ 1
    at_most_one None = omega arith
    at_most_one (Some x) = omega arith
few_moments lab H n (relay r) g there =
    let is : IsOfRelay (relay_settings lab.topology n r) (journal n H) (now H) = of_relay lab H n r g there in
    let peers : length (peers_due (relay_mentions (journal n H).entries) (now H)) ≤ 256 =
    few_peers (relay_mentions (journal n H).entries) (now H)
    (relay_rules_journal_has_few (relay_settings lab.topology n r) (journal n H).entries (now H) is.journal is.moments) in
    omega (arith, peers)
few_moments lab H n (native a) g there = omega arith

pub few_due : (lab : Lab) (H : List Full) → IsTopology lab.topology → Grown lab H → length (all_due lab H 0 (nodes lab.topology)) ≤ most_due
few_due lab H is g =
    let all : length (all_due lab H 0 (nodes lab.topology)) ≤ length lab.topology.clients * 257 + length lab.topology.relays * 257 =
    at_most 257 lab.topology (due_moments lab H) (all_due lab H) (λ n. refl) (λ n a rest. refl) (λ n a there. few_moments lab H n a g there) in
    omega (arith, all, is.clients, is.relays)
