-- Whom a datagram reaches: a server, or a client to which NATs let it in, and nobody where one of them shuts it out.
use Rattle.theory_first_packets.proofs.Words.{ClientNode, Ep, Full, IsLetIn, IsShutOut, IsTopology, Lab, List, ServerNode, Some, client, closed, each_is_reached, inl, is_shut_out, node_at, now, reaches, refl, route, server, server_ep, udp, ℕ, ◌≡◌}

module _ (lab : Lab) (is : IsTopology lab.topology) (H : List Full) where
  -- what is sent to a server's primary endpoint
  pub to_server : (k : ℕ) (a : ServerNode) (src : Ep) (bytes : List ℕ) → node_at lab.topology k ≡ Some (server a)
      → route lab H (now H) (udp src (server_ep a.primary) bytes) ≡ reaches k (server a)
  to_server k a src bytes there = each_is_reached lab H (now H) (udp src (server_ep a.primary) bytes) k (server a) is there (inl refl)

  -- what is let in to a client
  pub to_client : (n : ℕ) {c : ClientNode} {src dst : Ep} (bytes : List ℕ) → node_at lab.topology n ≡ Some (client c) → IsLetIn lab H (now H) src dst c
      → route lab H (now H) (udp src dst bytes) ≡ reaches n (client c)
  to_client n {c} {src} {dst} bytes there enters = each_is_reached lab H (now H) (udp src dst bytes) n (client c) is there enters

  -- what a NAT shuts out
  pub to_none : (src dst : Ep) (bytes : List ℕ) (k : ℕ) → IsShutOut lab H (now H) src dst k → route lab H (now H) (udp src dst bytes) ≡ closed k
  to_none src dst bytes k shut = is_shut_out lab H (now H) src dst bytes k is shut
