-- A client's packet for a native host, where a fresh schedule follows: it is handed in for the host, and the client may ask first.
use Rattle.theory_reaching.proofs.Words.{AreFresh, ClientNode, Full, Grown, HasNoFault, HostHandsIn, Ip6, IsChained, IsSentNext, IsTopology, Lab, List, NativeNode, RelayNode, Some, address_at, address_of, ap, client, false, is_fresh, is_settled, known_by, native, node_at, now, relay_at, sound_first, subst, true, ℕ, ◌++◌, ◌∷◌, ◌≡◌}
use Rattle.theory_settled.proofs.Earlier.{earlier}
use Rattle.theory_reaching.proofs.relays.Relays.{AreRelayed}
use Rattle.theory_reaching.proofs.to_native.TestsOut.{IsAsking}

-- the host of client n, which is c, hands in x for native m, which is h, and the records of a fresh schedule follow
pub record GoesOutwards (lab : Lab) (H : List Full) (q : Full) (later : List Full) (n m : ℕ) (c : ClientNode) (h : NativeNode) (x : List ℕ) : Type 0 where
  pub rules : IsTopology lab.topology
  pub chained : IsChained lab
  pub grown : Grown lab (later ++ q ∷ H)
  pub client_is : node_at lab.topology n ≡ Some (client c)
  pub host_is : node_at lab.topology m ≡ Some (native h)
  pub sent : IsSentNext lab H q n m (client c) x
  pub fresh : AreFresh q later

-- a packet that goes out to a native host
pub record GoingOut : Type 0 where
  pub lab : Lab
  pub H : List Full
  pub q : Full
  pub later : List Full
  pub n : ℕ
  pub m : ℕ
  pub c : ClientNode
  pub h : NativeNode
  pub x : List ℕ
  pub goes : GoesOutwards lab H q later n m c h x

module _ (going_out : GoingOut) where
  open going_out use {lab, H, q, later, n, m, c, h, x, goes}

  pub there : Grown lab (q ∷ H)
  there = earlier lab later (q ∷ H) goes.grown

  pub handed : HostHandsIn q n (address_at lab H n) h.six x
  handed = subst (λ (z : Ip6). HostHandsIn q n (address_at lab H n) z x) (ap (address_of lab H m) goes.host_is) goes.sent.handed

  pub sound : HasNoFault q
  sound = sound_first q later goes.fresh

  -- its relay is r
  module _ (r : RelayNode) (through : relay_at lab.topology h.relay ≡ Some r) (settled : is_settled lab H n c ≡ true) where
    pub are_relayed : AreRelayed lab H n m c h r
    are_relayed = record {
      rules = goes.rules;
      chained = goes.chained;
      grown = there.1;
      client_is = goes.client_is;
      host_is = goes.host_is;
      relay_is = through;
      settled = settled;
    }

    pub asking : is_fresh (now H) (known_by H n h.six) ≡ false → IsAsking lab H q n m c h r x
    asking stale = record { are = are_relayed; grown = there; handed = handed; sound = sound; stale = stale }
