-- No entry of the wire draws more than nine deliveries, itself counted.
use Rattle.theory_storms.proofs.Words.{AllByRecursion, Bool, Ep, Full, Item, List, Node, None, Option, Some, TopologyState, [], arith, client, cond, eased_weight, eases_for_relay, false, false≢true, fields_in, first_passing, inl, inr, is_at, is_echo_reply, is_of_relay, length, less, message_in, nat, native, node_at, option_and_then, packet_weight, refl, relay, relay_trusts, server, six, sum_by, sum_by-cons, true, udp, weight_at, ℕ, ◌*◌, ◌∷◌, ◌≡◌, ◌≤◌, ◌⊎◌}
use Rattle.theory_storms.proofs.Weighed.{datagram_most, served_most}
use Rattle.theory_storms.proofs.EasedWeights.{Ease, eased_is, eased_most}
use Rattle.theory_storms.proofs.clients.TrustedClients.{packet_lines}
use Rattle.theory_storms.proofs.relays.OfHosts.{IsOfHost}

abbrev z : Ease
z = record { amount = 3; few = omega arith }

nine_by : (reply trusted of : Bool) → (reply ≡ false → of ≡ true) → less 3 (cond reply trusted of) (cond reply 5 12) ≤ 9
nine_by true true of h = omega arith
nine_by true false of h = omega arith
nine_by false trusted true h = omega arith
nine_by false trusted false h = absurd (false≢true (h refl))

datagram_nine : (t : TopologyState) (src dst : Ep) (x : List ℕ) (o : Option Node) → weight_at t src dst x o ≤ 9
datagram_nine t src dst x None = let most = datagram_most t src dst x in omega (arith, most)
datagram_nine t src dst x (Some (server a)) = served_most t src dst x a
datagram_nine t src dst x (Some (nat a)) = let most = datagram_most t src dst x in omega (arith, most)
datagram_nine t src dst x (Some (client a)) = let most = datagram_most t src dst x in omega (arith, most)
datagram_nine t src dst x (Some (relay a)) = let most = datagram_most t src dst x in omega (arith, most)
datagram_nine t src dst x (Some (native a)) = let most = datagram_most t src dst x in omega (arith, most)

-- each that is on the wire
entry_nine : (t : TopologyState) (H : List Full) (x : Item) → IsOfHost t x → eased_weight t H x ≤ 9
entry_nine t H (udp src dst x) of =
    let nine = datagram_nine t src dst x (option_and_then (node_at t) (first_passing (is_at dst) t)) in
    let most = eased_most z t H (udp src dst x) in
    omega (arith, nine, most)
entry_nine t H (six None x) of = by (packet_lines (fields_in x)) where
  by : (packet_weight false (fields_in x) ≡ 6) ⊎ (packet_weight false (fields_in x) ≤ 2) → eased_weight t H (six None x) ≤ 9
  by (inl is) = let most = eased_most z t H (six None x) in omega (arith, is, most)
  by (inr few) = let most = eased_most z t H (six None x) in omega (arith, few, most)
entry_nine t H (six (Some n) x) of =
    let weighs = eased_is z t H (six (Some n) x) (eases_for_relay t H n (fields_in x)) refl in
    let most = nine_by (is_echo_reply (message_in (fields_in x))) (relay_trusts t H n (fields_in x).dst) (is_of_relay t n (fields_in x)) of in
    omega (arith, weighs, most)

pub entries_nine : (t : TopologyState) (H : List Full) (xs : List Item) → AllByRecursion (IsOfHost t) xs
    → sum_by (eased_weight t H) xs ≤ 9 * length xs
entries_nine t H [] of = omega arith
entries_nine t H (x ∷ xs) of =
    let one = entry_nine t H x of.0 in
    let rest = entries_nine t H xs of.1 in
    let whole = sum_by-cons (eased_weight t H) x xs in
    omega (arith, one, rest, whole)
