-- From one entry alone no more deliveries follow than it weighs, eased: from a packet for a relay at most nine, and from a
-- datagram to one at most four.
use Rattle.theory_storms.proofs.Words.{Bool, Ep, FollowFromOne, FourFollow, Freight, Full, IsAlone, IsTopology, Item, List, NineFollow, Node, Option, RelayNode, Some, TopologyState, [], and_parts, ap, arith, by_lines, client, datagram_weight, eased_burden, eased_weight, eases_at, false, false≢true, freight, freight_weight, inl, inr, is_bubble, is_eased, is_echo_reply, is_global6, is_nat_at, is_payload, is_teredo, is_trusted_for, length, less, list_any, message_in, nat, native, node_at, nodes, not, refl, relay, same_ep-self, server, subst, sum, sum_by, sum_by-cons, sym, true, udp, value_in, weight_at, ℕ, ◌&&◌, ◌==◌, ◌||◌, ◌∷◌, ◌≡◌, ◌≤◌, ◌⊎◌}
use Rattle.theory_storms.proofs.Places.{first_is, placed, one_there}
use Rattle.theory_storms.proofs.EasedWeights.{less_most, eased_is}
use Rattle.theory_storms.proofs.Waits.{waits_most}
use Rattle.theory_storms.proofs.Ending.{few_follow}
use Rattle.theory_storms.proofs.Most.{nine_for_each}

-- nothing else counts
alone_is : (t : TopologyState) (H : List Full) (x : Item) → IsAlone t H x → eased_burden t H ≤ eased_weight t H x
alone_is t H x alone =
    let items = ap (sum_by (eased_weight t H)) alone.undelivered in
    let one = sum_by-cons (eased_weight t H) x [] in
    let waiting = waits_most 3 t H 0 (nodes t) in
    let none = ap sum alone.waiting in
    omega (arith, items, one, waiting, none)

pub one : FollowFromOne
one lab H later x is g alone new =
    let most = alone_is lab.topology H x alone in
    let follow = few_follow lab H later is g new in
    omega (arith, most, follow)

-- A PACKET FOR A RELAY

pub nine : NineFollow
nine lab H later n x is g alone new =
    let most = nine_for_each lab H later is g new in
    let one = ap length alone.undelivered in
    let none = ap length alone.waiting in
    omega (arith, most, one, none)

-- A DATAGRAM TO A RELAY

-- no NAT is at a relay's endpoint
no_nat : (t : TopologyState) (n : ℕ) (r : RelayNode) → IsTopology t → node_at t n ≡ Some (relay r)
    → list_any (is_nat_at r.at) (nodes t) ≡ true → ⊥
no_nat t n r is there some = let p = placed (is_nat_at r.at) (nodes t) some in by p.number p.node p.at p.passes where
  is_relay : Node → Bool
  is_relay (relay q) = true
  is_relay _ = false

  by : (k : ℕ) (a : Node) → node_at t k ≡ Some a → is_nat_at r.at a ≡ true → ⊥
  by k (nat a) at passes =
      let same : nat a ≡ relay r = one_there t r.at (relay r) (nat a) is
      (record { number = n; node = there; passes = same_ep-self r.at }) (record { number = k; node = at; passes = passes }) in
      false≢true (ap is_relay same)
  by k (server a) at passes = false≢true passes
  by k (client a) at passes = false≢true passes
  by k (relay a) at passes = false≢true passes
  by k (native a) at passes = false≢true passes

-- so no packet for a client goes there
lines : (a : Freight) → (a.foreign ≡ true → ⊥) → (freight_weight a ≤ 3) ⊎ (freight_weight a ≡ 7)
lines a none = by_lines (λ (w : ℕ). (w ≤ 3) ⊎ (w ≡ 7)) ((a.indirect && a.origin_at_server, 3) ∷ (a.indirect, 2) ∷ (a.foreign, 8) ∷ (a.for_relay, 7) ∷ []) 1
    ((λ _. inl (omega arith)), (λ _. ((λ _. inl (omega arith)), (λ _. ((λ h. absurd (none h)), (λ _. ((λ _. inr refl), (λ _. inl (omega arith)))))))))

datagram_lines : (t : TopologyState) (src : Ep) (n : ℕ) (r : RelayNode) (x : List ℕ) → IsTopology t → node_at t n ≡ Some (relay r)
    → (datagram_weight t src r.at x ≤ 3) ⊎ (datagram_weight t src r.at x ≡ 7)
unfolding datagram_weight
datagram_lines t src n r x is there = lines (freight t src r.at (is_payload x) (value_in x)) (λ foreign.
    let p = (value_in x).packet in
    let to_nat = (and_parts (is_payload x && list_any (is_nat_at r.at) (nodes t))
    (is_global6 p.src && (not (is_teredo p.src) && (not (is_bubble p) && not (is_echo_reply (message_in p))))) foreign).0 in
    no_nat t n r is there (and_parts (is_payload x) (list_any (is_nat_at r.at) (nodes t)) to_nat).1)

four_by : (k : Bool) (w : ℕ) → (w ≤ 3) ⊎ (w ≡ 7) → less 3 ((w == 7) || ((w == 8) && k)) w ≤ 4
four_by k w (inl few) = let most = less_most 3 ((w == 7) || ((w == 8) && k)) w in omega (arith, few, most)
four_by k w (inr seven) = subst (λ (n : ℕ). less 3 ((n == 7) || ((n == 8) && k)) n ≤ 4) (sym seven) (omega arith)

pub four : FourFollow
four lab H later src n r x is g there alone new =
    let t : TopologyState = lab.topology in
    let item : Item = udp src r.at x in
    let first = ap (λ (o : Option Node). less 3 (eases_at t H src r.at x o) (weight_at t src r.at x o))
    (first_is t r.at n (relay r) is there (same_ep-self r.at)) in
    let weighs = eased_is (record { amount = 3; few = omega arith }) t H item (is_eased t H item) refl in
    let most = four_by (is_trusted_for t H (value_in x).packet.src (value_in x).packet.dst) (datagram_weight t src r.at x)
    (datagram_lines t src n r x is there) in
    let follow = one lab H later item is g alone new in
    omega (arith, first, weighs, most, follow)
