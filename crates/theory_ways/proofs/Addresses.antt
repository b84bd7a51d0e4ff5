-- Clients that are settled along their ways have different addresses.
use Rattle.theory_ways.proofs.Words.{AddressesDiffer, ClientNode, Ep, Full, IsLetIn, IsTopology, Lab, List, Some, [], addresses_are_apart, ap, asks_at, chain_in, client, client_at, client_is_there, comes_to, each_is_reached, nat, nat_pasts, now, number_in, refl, subst, sym, udp, ℕ, ◌∙◌, ◌≡◌}
use Rattle.theory_ways.proofs.chains.Nats.{has_own}
use Rattle.theory_ways.proofs.inwards.Inside.{one_end}

-- two clients to which datagrams to one endpoint are let in are one
pub one_client : {lab : Lab} (H : List Full) {m : ℕ} {src src' dst : Ep} (i j : ℕ) {a b : ClientNode} → IsTopology lab.topology
    → client_at lab.topology i ≡ Some a → client_at lab.topology j ≡ Some b → IsLetIn lab H m src dst a → IsLetIn lab H m src' dst b → i ≡ j
one_client {lab} H {m} {src} {src'} {dst} i j {a} {b} is at at' in_ in' =
    let t = lab.topology in
    let outer : in_.outer ≡ in'.outer = addresses_are_apart t in_.outer in'.outer (nat in_.row) (nat in'.row) dst.ip is in_.there in'.there
    (has_own dst.ip in_.row in_.external) (has_own dst.ip in'.row in'.external) in
    let enters : chain_in t lab.chain (nat_pasts lab H) m in_.outer src' dst.port ≡ comes_to b.nat b.inside =
    subst (λ (k : ℕ). chain_in t lab.chain (nat_pasts lab H) m k src' dst.port ≡ comes_to b.nat b.inside) (sym outer) in'.enters in
    let one : comes_to a.nat a.inside ≡ comes_to b.nat b.inside =
    one_end lab H m src src' lab.chain in_.outer dst.port refl refl in_.enters enters in
    let also : IsLetIn lab H m src dst b = record {
      outer = in_.outer;
      row = in_.row;
      there = in_.there;
      outermost = in_.outermost;
      external = in_.external;
      enters = in_.enters ∙ one;
    } in
    ap (number_in i) (sym (each_is_reached lab H m (udp src dst []) i (client a) is (client_is_there.node t i a at) in_)
    ∙ each_is_reached lab H m (udp src dst []) j (client b) is (client_is_there.node t j b at') also)

-- so two that are settled with one endpoint are one
pub addresses_differ : AddressesDiffer
addresses_differ lab H i j a b own other is at at' s s' same =
    one_client H i j is at at' s.reached
    (subst (λ (e : Ep). IsLetIn lab H (now H) (asks_at lab b) e b) (sym same) s'.reached)
