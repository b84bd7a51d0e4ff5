-- An echo request for a host whose relay trusts the client weighs what an echo request of a client weighs, eased, at most.
use Rattle.theory_storms.proofs.Words.{Bool, Fields, Full, Ip6, IsTopology, List, TopologyState, ap, arith, eases_request, false, inl, inr, is_trusted_for, less, list_any, packet_weight, relay_trusts, same_ip6, served, true, trusted_by, ℕ, ◌&&◌, ◌+◌, ◌==◌, ◌∙◌, ◌≡◌, ◌≤◌, ◌⊎◌}
use Rattle.theory_storms.proofs.EasedWeights.{Ease, less_most}
use Rattle.theory_storms.proofs.relays.Hosts.{relay_of_served}
use Rattle.theory_storms.proofs.clients.TrustedClients.{packet_lines}

-- where the host's relay trusts the client
pub trusted_request : (z : Ease) (t : TopologyState) (G : List Full) (p : Fields) → is_trusted_for t G p.dst p.src ≡ true
    → less z.amount (eases_request t G p) (packet_weight false p) + z.amount ≤ 6
trusted_request z t G p trusting = by (packet_lines p) where
  by : (packet_weight false p ≡ 6) ⊎ (packet_weight false p ≤ 2) → less z.amount (eases_request t G p) (packet_weight false p) + z.amount ≤ 6
  by (inl most) =
      let is = ap (λ (b : Bool). less z.amount ((packet_weight false p == 6) && b) (packet_weight false p)) trusting in
      let same = ap (λ (w : ℕ). less z.amount ((w == 6) && true) w) most in
      let few = z.few in
      omega (arith, is, same, few)
  by (inr small) =
      let most = less_most z.amount (eases_request t G p) (packet_weight false p) in
      let few = z.few in
      omega (arith, small, most, few)

-- the relay of a host that it serves
pub known_served : (t : TopologyState) (G : List Full) (n : ℕ) (host client : Ip6) → IsTopology t → list_any (same_ip6 host) (served t n) ≡ true
    → relay_trusts t G n client ≡ true → is_trusted_for t G host client ≡ true
unfolding is_trusted_for
known_served t G n host client is some h = ap (trusted_by t G client) (relay_of_served t n host is some) ∙ h
