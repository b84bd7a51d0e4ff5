-- A client, a native host and the host's relay: what stays as it is throughout the schedule.
use Rattle.theory_first_natives.proofs.Words.{GoesBetween, IsChained, IsElsewhere, IsEnd, IsNativeNode, IsRelayNode, IsServerNode, IsTopology, Lab, List, NativeNode, Peer, RelayNode, Some, Strict, client_at, each_node, embedded, false, fields_in, has_cone, has_symmetric, is_all_cone, is_big, is_usable, native, nats_of, node_at, relay, same_ip, server, true, ℕ, ◌≡◌}
use Rattle.theory_first_packets.proofs.passing.Sides.{Side}
use Rattle.theory_first_natives.proofs.RelayEndpoint as endpoint
use Rattle.theory_first_natives.proofs.RelayEndpoint.{IsBeside}

-- the client, native m, which is h, its relay k, which is r, what the client knew of the native beforehand, and the packet
pub record Trio : Type 0 where
  pub lab : Lab
  pub a : Side
  pub m : ℕ
  pub k : ℕ
  pub h : NativeNode
  pub r : RelayNode
  pub of_host : Peer
  pub x : List ℕ

-- what holds of them throughout
pub record IsTrio (p : Trio) : Type 0 where
  pub rules : IsTopology p.lab.topology
  pub chained : IsChained p.lab
  pub end : IsEnd p.lab p.a.n p.a.c p.a.own
  pub client_there : client_at p.lab.topology p.a.n ≡ Some p.a.c
  pub kinds : has_symmetric p.lab p.a.c ≡ false
  pub cone : has_cone p.a.own ≡ true → is_all_cone p.lab p.a.c ≡ true
  pub native_there : node_at p.lab.topology p.m ≡ Some (native p.h)
  pub relay_there : node_at p.lab.topology p.k ≡ Some (relay p.r)
  pub through : p.h.relay ≡ p.k
  pub packet : GoesBetween p.h.six p.a.own p.x
  pub small : is_big (fields_in p.x) ≡ false

-- WHAT FOLLOWS OF ITS NODES

-- the relay stands beside the client
abbrev pub is_beside : (p : Trio) → IsTrio p → IsBeside p.lab p.a p.k p.r
is_beside p is = record { rules = is.rules; end = is.end; there = is.relay_there }

module _ (p : Trio) (is : IsTrio p) where
  pub no_primary : same_ip p.r.at.ip is.end.server_row.primary ≡ false
  no_primary = endpoint.no_primary (is_beside p is)

  pub no_secondary : same_ip p.r.at.ip is.end.server_row.secondary ≡ false
  no_secondary = endpoint.no_secondary (is_beside p is)

  pub relay_elsewhere : IsElsewhere p.lab p.r.at.ip (nats_of p.lab p.a.c)
  relay_elsewhere = endpoint.relay_elsewhere (is_beside p is)

  pub no_loop : same_ip (embedded p.a.own).ip p.r.at.ip ≡ false
  no_loop = endpoint.no_loop (is_beside p is)

  pub relay_keeps : IsRelayNode p.r
  relay_keeps = endpoint.relay_keeps (is_beside p is)

  pub relay_usable : is_usable Strict p.r.at ≡ true
  relay_usable = endpoint.relay_usable (is_beside p is)

  pub native_keeps : IsNativeNode p.lab.topology p.h
  native_keeps = each_node p.lab.topology p.m (native p.h) is.rules is.native_there

  pub server_keeps : IsServerNode is.end.server_row
  server_keeps = each_node p.lab.topology p.a.c.server (server is.end.server_row) is.rules is.end.server_is
