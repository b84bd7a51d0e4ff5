-- A client, a host of the IPv6 Internet and its relay that are new to each other (RFC 4380, sections 5.2 and 5.4).
use Rattle.std.specs.Prelude.{◌≡◌, ◌≤◌, ◌+◌, ℕ, true, false, List, length, Some}
use Rattle.td_base.specs.declared.ipv6.Ip6.{Ip6}
use Rattle.teredo_addr.specs.Teredo.{has_cone}
use Rattle.peer_list.specs.declared.limits.TheConstants.{PEERS_MAX}
use Rattle.peer_list.specs.Listed.{is_listed, has_room, listed}
use Rattle.client_rules.specs.Bearings.{mentions}
use Rattle.relay_rules.specs.Bearings.{relay_mentions}
use Rattle.topology.specs.declared.client_node.ClientNode.{ClientNode}
use Rattle.topology.specs.declared.relay_node.RelayNode.{RelayNode}
use Rattle.topology.specs.declared.native_node.NativeNode.{NativeNode}
use Rattle.topology.specs.declared.node.Node.TheVariants.{Relay as relay, Native as native}
use Rattle.topology.specs.Topology.{node_at, client_at}
use Rattle.history.specs.Full.{Full}
use Rattle.legal.specs.Lab.{Lab}
use Rattle.legal.specs.Past.{now, journal}
use Rattle.theory_ways.specs.SettledAlong.{IsSettledAlong}
use Rattle.theory_first_packets.specs.FirstPacket.{IsNew}

-- relay k doesn't list the client with that address, and has room for it
-- Premise: a client that a relay doesn't know: its address is `unlisted` there, and there is `room` for it.
pub record IsNewToRelay (H : List Full) (k : ℕ) (own : Ip6) : Type 0 where
  pub unlisted : is_listed own (now H) (relay_mentions (journal k H).entries) ≡ false
  pub room : has_room (relay_mentions (journal k H).entries) (now H) own ≡ true

-- client n doesn't list the relay's own address, and has room for two more peers
-- Premise: a relay that a client doesn't know: the relay's own address is `unlisted`, and there is `room` for two more
-- peers, it and the host.
pub record IsNewWithRelay (H : List Full) (n : ℕ) (six : Ip6) : Type 0 where
  pub unlisted : is_listed six (now H) (mentions (journal n H).entries) ≡ false
  pub room : length (listed (mentions (journal n H).entries) (now H)) + 2 ≤ PEERS_MAX

-- client n, which is a, has the address own, and native m, which is h, the relay k, which is r. The client is settled along its
-- way, and none of them lists another. Without the cone bit the relay's bubble will come to the client, which then lists the relay
-- too
-- Premise: a client, a native host and its relay before the first packet: `client`, `host` and `relay` are such nodes,
-- and the host names the relay, `through`; the client is `settled` along its way; the host is new to the client,
-- `host_new`, the client to the relay, `client_new`, and, where the client's address has no cone bit, the relay to the
-- client, `relay_new`.
pub record AreNewToEachOther (lab : Lab) (H : List Full) (n m k : ℕ) (a : ClientNode) (h : NativeNode) (r : RelayNode) (own : Ip6) : Type 0 where
  pub client : client_at lab.topology n ≡ Some a
  pub host : node_at lab.topology m ≡ Some (native h)
  pub through : h.relay ≡ k
  pub relay : node_at lab.topology k ≡ Some (relay r)
  pub settled : IsSettledAlong lab H n a own
  pub host_new : IsNew H n h.six
  pub client_new : IsNewToRelay H k own
  pub relay_new : has_cone own ≡ false → IsNewWithRelay H n r.six
