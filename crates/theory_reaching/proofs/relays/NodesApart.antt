-- A client, its server, a native host and the host's relay are four nodes.
use Rattle.theory_reaching.proofs.Words.{ServerNode, Some, client, is_client_node, is_native_node, is_relay_node, native, node_at, refl, relay, server, sym, two_kinds, ℕ, ◌≡◌}
use Rattle.theory_reaching.proofs.relays.RelayEnds.{end, relay_there}
use Rattle.theory_reaching.proofs.relays.Relays.{RelayedHosts}

module _ (the : RelayedHosts) where
  open the use {lab, H, n, m, c, h, r, are}

  abbrev k : ℕ
  k = h.relay

  abbrev row : ServerNode
  row = (end the).server_row

  abbrev relay_is : node_at lab.topology k ≡ Some (relay r)
  relay_is = relay_there the

  abbrev server_is : node_at lab.topology c.server ≡ Some (server row)
  server_is = (end the).server_is

  pub relay_client : k ≡ n → ⊥
  relay_client = two_kinds lab.topology {i = k} {j = n} is_relay_node relay_is are.client_is refl refl

  pub client_relay : n ≡ k → ⊥
  client_relay = two_kinds lab.topology {i = n} {j = k} is_client_node are.client_is relay_is refl refl

  pub client_native : n ≡ m → ⊥
  client_native = two_kinds lab.topology {i = n} {j = m} is_client_node are.client_is are.host_is refl refl

  pub relay_native : k ≡ m → ⊥
  relay_native = two_kinds lab.topology {i = k} {j = m} is_relay_node relay_is are.host_is refl refl

  pub server_client : c.server ≡ n → ⊥
  server_client same = two_kinds lab.topology is_client_node are.client_is server_is refl refl (sym same)

  pub server_relay : c.server ≡ k → ⊥
  server_relay same = two_kinds lab.topology is_relay_node relay_is server_is refl refl (sym same)

  pub native_relay : m ≡ k → ⊥
  native_relay = two_kinds lab.topology {i = m} {j = k} is_native_node are.host_is relay_is refl refl

  pub native_client : m ≡ n → ⊥
  native_client = two_kinds lab.topology {i = m} {j = n} is_native_node are.host_is are.client_is refl refl

  pub server_native : c.server ≡ m → ⊥
  server_native same = two_kinds lab.topology is_native_node are.host_is server_is refl refl (sym same)
