-- A client, a host of the IPv6 Internet and its relay, of which some may know others: a packet from the host may come to the client
-- (RFC 4380, sections 5.2.3, 5.2.9 and 5.4). Those that are new to each other are a case of it.
use Rattle.std.specs.Prelude.{◌≡◌, ◌≤◌, ◌+◌, ◌&&◌, not, ℕ, Bool, true, false, List, [], length, Some, is_some}
use Rattle.td_base.specs.declared.ipv6.Ip6.{Ip6}
use Rattle.teredo_addr.specs.Teredo.{has_cone, embedded}
use Rattle.peer_list.specs.declared.limits.TheConstants.{PEERS_MAX}
use Rattle.peer_list.specs.Listed.{is_listed, has_room, listed}
use Rattle.peer_list.specs.Peers.{Peer, known}
use Rattle.peer_list.specs.Judged.{is_trusted_at, is_fresh, is_barred, holds_most}
use Rattle.client_rules.specs.Bearings.{mentions}
use Rattle.relay_rules.specs.Bearings.{relay_mentions}
use Rattle.topology.specs.declared.client_node.ClientNode.{ClientNode}
use Rattle.topology.specs.declared.relay_node.RelayNode.{RelayNode}
use Rattle.topology.specs.declared.native_node.NativeNode.{NativeNode}
use Rattle.topology.specs.declared.node.Node.TheVariants.{Relay as relay, Native as native}
use Rattle.topology.specs.Topology.{node_at, client_at}
use Rattle.history.specs.Full.{Full}
use Rattle.legal.specs.Lab.{Lab}
use Rattle.legal.specs.Past.{now, journal}
use Rattle.legal.specs.Routes.{IsLetIn}
use Rattle.theory_ways.specs.SettledAlong.{IsSettledAlong}
use Rattle.theory_first_packets.specs.MayMeet.{known_by, IsUnbarredFor}
use Rattle.theory_first_natives.specs.Relayed.{AreNewToEachOther}

-- WHAT THE RELAY KNOWS

-- of the client with that address, now
abbrev pub known_by_relay : List Full → ℕ → Ip6 → Peer
known_by_relay H k own = known (relay_mentions (journal k H).entries) (now H) own

-- relay k trusts the client
abbrev pub trusts_client : List Full → ℕ → Ip6 → Bool
trusts_client H k own = is_some (known_by_relay H k own).trusted

-- it sends the client nothing before it heard from it
abbrev pub must_ask : List Full → ℕ → Ip6 → Bool
must_ask H k own = not (trusts_client H k own) && not (has_cone own)

-- THE PREMISE

-- a client that knows so much of a native host tests it on a packet, and holds the packet until then: the host isn't fresh, the
-- client isn't barred for it, and doesn't hold as many packets of it as it may
pub record MayTest (n : ℕ) (host : Peer) : Type 0 where
  pub stale : is_fresh n host ≡ false
  pub unbarred : is_barred n host ≡ false
  pub kept : holds_most host ≡ false

-- a bubble of relay k, whose own address is `six`, goes to client n by its server, and is answered: no packet waits for the client
-- at the relay, neither is barred for the other, and the client has room for the relay, beside the host where it lists neither
-- Premise: a relay whose bubble a client answers: `nothing_waits` for the client at the relay; neither is barred for
-- the other, `relay_unbarred` and `client_unbarred`; the client has `room` for the relay, and for both where it lists
-- neither it nor the host, `room_for_both`.
pub record MayAskClient (H : List Full) (n k : ℕ) (own host six : Ip6) : Type 0 where
  pub nothing_waits : (known_by_relay H k own).waiting ≡ []
  pub relay_unbarred : is_barred (now H) (known_by_relay H k own) ≡ false
  pub client_unbarred : IsUnbarredFor H n six
  pub room : has_room (mentions (journal n H).entries) (now H) six ≡ true
  pub room_for_both : is_listed host (now H) (mentions (journal n H).entries) ≡ false → is_listed six (now H) (mentions (journal n H).entries) ≡ false
      → length (listed (mentions (journal n H).entries) (now H)) + 2 ≤ PEERS_MAX

-- client n, which is a, has the address own, and native m, which is h, the relay k, which is r. The client is settled along its way,
-- and client and relay have room for host and client. Where the relay trusts the client, what it sends is let in to it; where it
-- must hear from it first, it may ask it. Where the client doesn't trust the host at the relay, it may test it
-- Premise: the three before any packet of the host to the client: `client`, `host` and `relay` are such nodes, and the
-- host names the relay, `through`; the client is `settled` along its way. A relay that trusts the client is `let_in` to
-- it. The client has room for the host, `host_room`, and the relay for the client, `client_room`. A client that doesn't
-- trust the host at the relay may test it, `may_test`; a relay that must hear from the client first may ask it,
-- `may_ask`.
pub record MayMeetThroughRelay (lab : Lab) (H : List Full) (n m k : ℕ) (a : ClientNode) (h : NativeNode) (r : RelayNode) (own : Ip6) : Type 0 where
  pub client : client_at lab.topology n ≡ Some a
  pub host : node_at lab.topology m ≡ Some (native h)
  pub through : h.relay ≡ k
  pub relay : node_at lab.topology k ≡ Some (relay r)
  pub settled : IsSettledAlong lab H n a own
  pub let_in : trusts_client H k own ≡ true → IsLetIn lab H (now H) r.at (embedded own) a
  pub host_room : has_room (mentions (journal n H).entries) (now H) h.six ≡ true
  pub client_room : has_room (relay_mentions (journal k H).entries) (now H) own ≡ true
  pub may_test : is_trusted_at r.at (known_by H n h.six) ≡ false → MayTest (now H) (known_by H n h.six)
  pub may_ask : must_ask H k own ≡ true → MayAskClient H n k own h.six r.six

-- those that are new to each other may meet
abbrev pub NewMayMeetThroughRelay : Type 0
NewMayMeetThroughRelay = (lab : Lab) (H : List Full) (n m k : ℕ) (a : ClientNode) (h : NativeNode) (r : RelayNode) (own : Ip6)
    → AreNewToEachOther lab H n m k a h r own → MayMeetThroughRelay lab H n m k a h r own
