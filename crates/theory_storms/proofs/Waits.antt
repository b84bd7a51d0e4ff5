-- What waits in all nodes, where one of them did something.
use Rattle.theory_storms.proofs.Words.{Bool, Full, IsMissed, IsReached, Item, Journal, Lab, List, Node, Option, Some, TopologyState, [], ap, arith, client, client_packet, cond, false, false≢true, fields_in, is_echo_reply, is_of_relay, is_some, journal, less, message_in, nat, native, nodes, now, refl, relay, relay_mentions, relay_packet, server, slice_get, subst, suc, sum, sum-map, sum_by, sum_by-append, sym, true, unwrap_or, waiting_at, waiting_from, waiting_packets, waiting_weight, waits_at, waits_from, zero, ℕ, ◌+◌, ◌∙◌, ◌∷◌, ◌≡◌, ◌≢◌, ◌≤◌}
use Rattle.client_rules.specs.Bearings as client_bearings
use Rattle.theory_storms.proofs.EasedWeights.{less_most}
use Rattle.theory_storms.proofs.Sums.{all_under}

-- what waits after one history, beside another one
pub record Compared : Type 0 where
  pub ease : ℕ
  pub t : TopologyState
  pub G : List Full
  pub H : List Full

module _ (the : Compared) where
  open the use {ease, t, G, H}

  -- a node with the same journal, at the same moment
  same_at : (k : ℕ) (b : Node) → journal k G ≡ journal k H → now G ≡ now H → waiting_at ease t G k b ≡ waiting_at ease t H k b
  same_at k (client c) j m =
      ap (λ (n : ℕ). sum_by client_packet (waiting_packets (client_bearings.mentions (journal k G).entries) n)) m
      ∙ ap (λ (z : Journal). sum_by client_packet (waiting_packets (client_bearings.mentions z.entries) (now H))) j
  same_at k (relay r) j m =
      ap (λ (n : ℕ). sum_by (waiting_weight ease t k) (waiting_packets (relay_mentions (journal k G).entries) n)) m
      ∙ ap (λ (z : Journal). sum_by (waiting_weight ease t k) (waiting_packets (relay_mentions z.entries) (now H))) j
  same_at k (server a) j m = refl
  same_at k (nat a) j m = refl
  same_at k (native h) j m = refl

  all_same : (i : ℕ) (xs : List Node) → ((k : ℕ) (b : Node) → i ≤ k → waiting_at ease t G k b ≡ waiting_at ease t H k b)
      → waiting_from ease t G i xs ≡ waiting_from ease t H i xs
  all_same i [] same = refl
  all_same i (b ∷ xs) same =
      let first = same i b (omega arith) in
      let rest = all_same (i + 1) xs (λ k c l. same k c (omega (arith, l))) in
      omega (arith, first, rest)

  -- node k alone changes
  module _ (k : ℕ) (a : Node) (x y : ℕ) (same : (l : ℕ) (b : Node) → l ≢ k → waiting_at ease t G l b ≡ waiting_at ease t H l b)
      (changes : waiting_at ease t G k a + x ≤ waiting_at ease t H k a + y) where
    one_changes : (i n : ℕ) (xs : List Node) → slice_get xs n ≡ Some a → k ≡ i + n → waiting_from ease t G i xs + x ≤ waiting_from ease t H i xs + y
    one_changes i n [] at e = absurd (false≢true (ap (λ (o : Option Node). is_some o) at))
    one_changes i zero (b ∷ xs) at e =
        let is : b ≡ a = ap (λ (o : Option Node). unwrap_or o b) at in
        let here : i ≡ k = omega (arith, e) in
        let there = subst (λ (j : ℕ). waiting_at ease t G j b + x ≤ waiting_at ease t H j b + y) (sym here)
        (subst (λ (z : Node). waiting_at ease t G k z + x ≤ waiting_at ease t H k z + y) (sym is) changes) in
        let rest = all_same (i + 1) xs (λ l c le. same l c (λ (eq : l ≡ k). omega (arith, le, eq, here))) in
        omega (arith, there, rest)
    one_changes i (suc n) (b ∷ xs) at e =
        let first = same i b (λ (eq : i ≡ k). omega (arith, eq, e)) in
        let rest = one_changes (i + 1) n xs at (omega (arith, e)) in
        omega (arith, first, rest)

-- a node was reached: what waits in the others doesn't change
module _ (ease : ℕ) (lab : Lab) (H : List Full) (r : Full) (n : ℕ) (a : Node) (item : Item) (h : IsReached lab H r n a item) where
  abbrev t : TopologyState
  t = lab.topology

  pub node_changes : (x y : ℕ) → waiting_at ease t (r ∷ H) n a + x ≤ waiting_at ease t H n a + y
      → waiting_from ease t (r ∷ H) 0 (nodes t) + x ≤ waiting_from ease t H 0 (nodes t) + y
  node_changes x y changes =
      let both : Compared = record { ease = ease; t = t; G = r ∷ H; H = H } in
      one_changes both n a x y (λ l b apart. same_at both l b (h.others l apart) h.moment) changes 0 n (nodes t) h.act.there (omega arith)

-- nobody was: nothing changes
pub none_changes : (ease : ℕ) (lab : Lab) (H : List Full) (r : Full) (x : Item) → IsMissed lab H r x
    → waiting_from ease lab.topology (r ∷ H) 0 (nodes lab.topology) ≡ waiting_from ease lab.topology H 0 (nodes lab.topology)
none_changes ease lab H r x m =
    let both : Compared = record { ease = ease; t = lab.topology; G = r ∷ H; H = H } in
    all_same both 0 (nodes lab.topology) (λ k b l. same_at both k b (m.journals k) m.moment)

-- AS THE WEIGHTS ALONE SAY

packet_most : (ease : ℕ) (t : TopologyState) (n : ℕ) (x : List ℕ) → waiting_weight ease t n x ≤ relay_packet x
packet_most ease t n x = by (is_echo_reply (message_in (fields_in x))) where
  by : (b : Bool) → cond b 1 (less ease (is_of_relay t n (fields_in x)) 8) ≤ cond b 1 8
  by true = omega arith
  by false = less_most ease (is_of_relay t n (fields_in x)) 8

packet_least : (t : TopologyState) (n : ℕ) (x : List ℕ) → relay_packet x ≤ waiting_weight 0 t n x
packet_least t n x = by (is_echo_reply (message_in (fields_in x))) (is_of_relay t n (fields_in x)) where
  by : (b c : Bool) → cond b 1 8 ≤ cond b 1 (less 0 c 8)
  by true c = omega arith
  by false true = omega arith
  by false false = omega arith

-- no more
at_most : (ease : ℕ) (t : TopologyState) (H : List Full) (n : ℕ) (a : Node) → waiting_at ease t H n a ≤ sum (waits_at H n a)
at_most ease t H n (client c) =
    let is = sum-map client_packet (waiting_packets (client_bearings.mentions (journal n H).entries) (now H)) in
    omega (arith, is)
at_most ease t H n (relay r) =
    let xs = waiting_packets (relay_mentions (journal n H).entries) (now H) in
    let is = sum-map relay_packet xs in
    let under = all_under (waiting_weight ease t n) relay_packet xs (packet_most ease t n) in
    omega (arith, is, under)
at_most ease t H n (server a) = omega arith
at_most ease t H n (nat a) = omega arith
at_most ease t H n (native h) = omega arith

pub waits_most : (ease : ℕ) (t : TopologyState) (H : List Full) (n : ℕ) (xs : List Node) → waiting_from ease t H n xs ≤ sum (waits_from H n xs)
waits_most ease t H n [] = omega arith
waits_most ease t H n (a ∷ rest) =
    let first = at_most ease t H n a in
    let others = waits_most ease t H (n + 1) rest in
    let both = sum_by-append (λ (k : ℕ). k) (waits_at H n a) (waits_from H (n + 1) rest) in
    omega (arith, first, others, both)

-- and without ease as much
at_least : (t : TopologyState) (H : List Full) (n : ℕ) (a : Node) → sum (waits_at H n a) ≤ waiting_at 0 t H n a
at_least t H n (client c) =
    let is = sum-map client_packet (waiting_packets (client_bearings.mentions (journal n H).entries) (now H)) in
    omega (arith, is)
at_least t H n (relay r) =
    let xs = waiting_packets (relay_mentions (journal n H).entries) (now H) in
    let is = sum-map relay_packet xs in
    let under = all_under relay_packet (waiting_weight 0 t n) xs (packet_least t n) in
    omega (arith, is, under)
at_least t H n (server a) = omega arith
at_least t H n (nat a) = omega arith
at_least t H n (native h) = omega arith

pub waits_least : (t : TopologyState) (H : List Full) (n : ℕ) (xs : List Node) → sum (waits_from H n xs) ≤ waiting_from 0 t H n xs
waits_least t H n [] = omega arith
waits_least t H n (a ∷ rest) =
    let first = at_least t H n a in
    let others = waits_least t H (n + 1) rest in
    let both = sum_by-append (λ (k : ℕ). k) (waits_at H n a) (waits_from H (n + 1) rest) in
    omega (arith, first, others, both)
