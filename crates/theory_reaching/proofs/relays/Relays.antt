-- A client that is settled along its way, a host of the IPv6 Internet, and the host's relay.
use Rattle.theory_reaching.proofs.Words.{ClientNode, Full, Grown, IsChained, IsTopology, Lab, List, NativeNode, Node, None, Option, RelayNode, Some, TopologyState, ap, as_relay, client, false≢true, is_settled, is_some, nat, native, node_at, option_and_then, refl, relay, relay_at, server, true, unwrap_or, ℕ, ◌∙◌, ◌≡◌}

-- client n is c, and native m is h, whose relay is r
pub record AreRelayed (lab : Lab) (H : List Full) (n m : ℕ) (c : ClientNode) (h : NativeNode) (r : RelayNode) : Type 0 where
  pub rules : IsTopology lab.topology
  pub chained : IsChained lab
  pub grown : Grown lab H
  pub client_is : node_at lab.topology n ≡ Some (client c)
  pub host_is : node_at lab.topology m ≡ Some (native h)
  pub relay_is : relay_at lab.topology h.relay ≡ Some r
  pub settled : is_settled lab H n c ≡ true

-- the relay stands among the nodes
pub relay_is_there : (t : TopologyState) (k : ℕ) (r : RelayNode) → relay_at t k ≡ Some r → node_at t k ≡ Some (relay r)
relay_is_there t k r is = by (node_at t k) refl is where
  none : {A : Type 0} → None ≡ Some r → A
  none e = absurd (false≢true (ap (λ (o : Option RelayNode). is_some o) e))

  by : (o : Option Node) → node_at t k ≡ o → option_and_then as_relay o ≡ Some r → node_at t k ≡ Some (relay r)
  by None at e = none e
  by (Some (relay s)) at e = at ∙ ap (λ (z : RelayNode). Some (relay z)) (ap (λ (o : Option RelayNode). unwrap_or o s) e)
  by (Some (server a)) at e = none e
  by (Some (nat a)) at e = none e
  by (Some (client a)) at e = none e
  by (Some (native a)) at e = none e

-- so it is in this laboratory, of these three
pub record RelayedHosts : Type 0 where
  pub lab : Lab
  pub H : List Full
  pub n : ℕ
  pub m : ℕ
  pub c : ClientNode
  pub h : NativeNode
  pub r : RelayNode
  pub are : AreRelayed lab H n m c h r
