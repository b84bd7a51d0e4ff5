-- How many deliveries follow, by what is undelivered and what waits where.
use Rattle.theory_storms.proofs.Words.{AllByRecursion, Bool, FewByKind, Full, Grown, IsTopology, Lab, List, Node, Some, TopologyState, [], arith, client, client_packet, cond, earlier, false, false≢true, fields_in, is_echo_reply, is_of_relay, journal, length, less, message_in, nat, native, node_at, nodes, now, refl, relay, relay_mentions, server, six, slice_get, subst, suc, sum_by, sum_by-cons, sum_from, true, undelivered_items, waiting_at, waiting_from, waiting_in_client, waiting_in_relay, waiting_packets, waiting_weight, ℕ, ◌*◌, ◌+◌, ◌∷◌, ◌≡◌, ◌≤◌}
use Rattle.client_rules.specs.Bearings as client_bearings
use Rattle.theory_storms.proofs.relays.OfHosts.{IsOfHost, undelivered_of_hosts}
use Rattle.theory_storms.proofs.NineAtMost.{entries_nine}
use Rattle.theory_storms.proofs.relays.RelayWaits.{waiting_of_hosts}
use Rattle.theory_storms.proofs.Ending.{few_follow}

-- PACKETS THAT WAIT

sum_under : (f : List ℕ → ℕ) (k : ℕ) (xs : List (List ℕ)) → AllByRecursion (λ (x : List ℕ). f x ≤ k) xs → sum_by f xs ≤ k * length xs
sum_under f k [] most = omega arith
sum_under f k (x ∷ xs) most =
    let one = most.0 in
    let rest = sum_under f k xs most.1 in
    let whole = sum_by-cons f x xs in
    omega (arith, one, rest, whole)

five_by : (reply of : Bool) → (reply ≡ false → of ≡ true) → cond reply 1 (less 3 of 8) ≤ 5
five_by true of h = omega arith
five_by false true h = omega arith
five_by false false h = absurd (false≢true (h refl))

-- one of a host of the relay
five : (t : TopologyState) (n : ℕ) (x : List ℕ) → IsOfHost t (six (Some n) x) → waiting_weight 3 t n x ≤ 5
five t n x of = five_by (is_echo_reply (message_in (fields_in x))) (is_of_relay t n (fields_in x)) of

fives : (t : TopologyState) (n : ℕ) (xs : List (List ℕ)) → AllByRecursion (λ (x : List ℕ). IsOfHost t (six (Some n) x)) xs
    → AllByRecursion (λ (x : List ℕ). waiting_weight 3 t n x ≤ 5) xs
fives t n [] of = tt
fives t n (x ∷ xs) of = (five t n x of.0, fives t n xs of.1)

eights : (xs : List (List ℕ)) → AllByRecursion (λ (x : List ℕ). client_packet x ≤ 8) xs
eights [] = tt
eights (x ∷ xs) = (omega arith, eights xs)

module _ (lab : Lab) (H : List Full) (is : IsTopology lab.topology) (g : Grown lab H) where
  abbrev t : TopologyState
  t = lab.topology

  at_kind : (n : ℕ) (a : Node) → node_at t n ≡ Some a → waiting_at 3 t H n a ≤ 8 * waiting_in_client H n a + 5 * waiting_in_relay H n a
  at_kind n (client c) there =
      let xs = waiting_packets (client_bearings.mentions (journal n H).entries) (now H) in
      let most = sum_under client_packet 8 xs (eights xs) in
      omega (arith, most)
  at_kind n (relay r) there =
      let xs = waiting_packets (relay_mentions (journal n H).entries) (now H) in
      let most = sum_under (waiting_weight 3 t n) 5 xs (fives t n xs (waiting_of_hosts lab n r H is g there)) in
      omega (arith, most)
  at_kind n (server a) there = omega arith
  at_kind n (nat a) there = omega arith
  at_kind n (native h) there = omega arith

  -- of nodes that are numbered from i on
  all_kinds : (i : ℕ) (xs : List Node) → ((k : ℕ) (a : Node) → slice_get xs k ≡ Some a → node_at t (i + k) ≡ Some a)
      → waiting_from 3 t H i xs ≤ 8 * sum_from (waiting_in_client H) i xs + 5 * sum_from (waiting_in_relay H) i xs
  all_kinds i [] at = omega arith
  all_kinds i (a ∷ rest) at =
      let here : i + 0 ≡ i = omega arith in
      let first = at_kind i a (subst (λ (j : ℕ). node_at t j ≡ Some a) here (at 0 a refl)) in
      let others = all_kinds (i + 1) rest
      (λ k b e. let there : i + suc k ≡ i + 1 + k = omega arith in subst (λ (j : ℕ). node_at t j ≡ Some b) there (at (suc k) b e)) in
      omega (arith, first, others)

  waiting_by_kind : waiting_from 3 t H 0 (nodes t) ≤ 8 * sum_from (waiting_in_client H) 0 (nodes t) + 5 * sum_from (waiting_in_relay H) 0 (nodes t)
  waiting_by_kind = all_kinds 0 (nodes t) (λ k a e. let there : k ≡ 0 + k = omega arith in subst (λ (j : ℕ). node_at t j ≡ Some a) there e)

-- ALL

pub few_by_kind : FewByKind
few_by_kind lab H later is g new =
    let before : Grown lab H = earlier lab later H g in
    let follow = few_follow lab H later is g new in
    let entries = entries_nine lab.topology H (undelivered_items H) (undelivered_of_hosts lab H is before) in
    let waiting = waiting_by_kind lab H is before in
    omega (arith, follow, entries, waiting)
