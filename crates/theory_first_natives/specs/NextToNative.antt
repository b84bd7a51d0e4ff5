-- A packet from a client to a host of the IPv6 Internet, be it the first or a later one: wherever it may come to the host it comes by
-- so many deliveries (RFC 4380, sections 5.2.4, 5.2.9 and 5.4). Those that are new to each other are a case of it.
use Rattle.std.specs.Prelude.{◌≡◌, ℕ, true, false, List, [], Some}
use Rattle.td_base.specs.declared.ipv6.Ip6.{Ip6}
use Rattle.teredo_addr.specs.Teredo.{embedded}
use Rattle.peer_list.specs.Listed.{has_room}
use Rattle.peer_list.specs.Judged.{is_fresh}
use Rattle.client_rules.specs.Bearings.{mentions}
use Rattle.relay_rules.specs.Bearings.{relay_mentions}
use Rattle.topology.specs.declared.client_node.ClientNode.{ClientNode}
use Rattle.topology.specs.declared.relay_node.RelayNode.{RelayNode}
use Rattle.topology.specs.declared.native_node.NativeNode.{NativeNode}
use Rattle.topology.specs.declared.node.Node.TheVariants.{Relay as relay, Native as native}
use Rattle.topology.specs.Topology.{node_at, client_at}
use Rattle.history.specs.Full.{Full}
use Rattle.legal.specs.Lab.{Lab}
use Rattle.legal.specs.Past.{now, journal}
use Rattle.legal.specs.Routes.{IsLetIn}
use Rattle.theory_ways.specs.SettledAlong.{IsSettledAlong}
use Rattle.theory_first_packets.specs.Schedules.{AreFresh}
use Rattle.theory_first_packets.specs.FirstPacket.{HostHandsIn}
use Rattle.theory_first_packets.specs.MayMeet.{known_by, IsUnbarredFor}
use Rattle.theory_first_natives.specs.MayMeetThroughRelay.{known_by_relay, trusts_client, must_ask, MayAskClient}
use Rattle.theory_first_natives.specs.NextFromNative.{most_deliveries}
use Rattle.theory_first_natives.specs.ToNative.{GetsToNative}

-- client n, which is a, has the address own, and native m, which is h, the relay k, which is r. The client is settled along its way,
-- and client and relay have room for host and client. The client tests the host: the host isn't fresh, the client isn't barred for
-- it, and nothing waits for it. Nothing waits for the client at the relay. Where the relay trusts the client, what it sends is let in
-- to it; where it must hear from it first, it may ask it
-- Premise: a client, a native host and its relay before any packet of the client to the host: `client`, `host` and
-- `relay` are such nodes, and the host names the relay, `through`; the client is `settled` along its way. A relay that
-- trusts the client is `let_in` to it. The client has room for the host, `host_room`, and the relay for the client,
-- `client_room`. The host isn't fresh at the client, which is `stale`, nor is the client barred for it, `unbarred`, and
-- `nothing_waits` for it there; at the relay nothing waits for the client, `relay_idle`. Where the relay must hear from
-- the client first it may ask it, `may_ask`.
pub record MayReachNative (lab : Lab) (H : List Full) (n m k : ℕ) (a : ClientNode) (h : NativeNode) (r : RelayNode) (own : Ip6) : Type 0 where
  pub client : client_at lab.topology n ≡ Some a
  pub host : node_at lab.topology m ≡ Some (native h)
  pub through : h.relay ≡ k
  pub relay : node_at lab.topology k ≡ Some (relay r)
  pub settled : IsSettledAlong lab H n a own
  pub let_in : trusts_client H k own ≡ true → IsLetIn lab H (now H) r.at (embedded own) a
  pub host_room : has_room (mentions (journal n H).entries) (now H) h.six ≡ true
  pub client_room : has_room (relay_mentions (journal k H).entries) (now H) own ≡ true
  pub stale : is_fresh (now H) (known_by H n h.six) ≡ false
  pub unbarred : IsUnbarredFor H n h.six
  pub nothing_waits : (known_by H n h.six).waiting ≡ []
  pub relay_idle : (known_by_relay H k own).waiting ≡ []
  pub may_ask : must_ask H k own ≡ true → MayAskClient H n k own h.six r.six

-- in the record after H the host of client n hands in x for native m
-- Premise: See `IsFirstToNative`.
pub record IsNextToNative (lab : Lab) (H : List Full) (q : Full) (n m k : ℕ) (a : ClientNode) (h : NativeNode) (r : RelayNode) (own : Ip6)
    (x : List ℕ) : Type 0 where
  pub nodes : MayReachNative lab H n m k a h r own
  pub handed : HostHandsIn q n own h.six x

-- it is carried in the schedule after it, where this is fresh
abbrev pub NextToNativeArrivesAlong : Lab → List Full → Full → List Full → Type 0
NextToNativeArrivesAlong lab H q later = (n m k : ℕ) (a : ClientNode) (h : NativeNode) (r : RelayNode) (own : Ip6) (x : List ℕ)
    → IsNextToNative lab H q n m k a h r own x → AreFresh q later → GetsToNative H q n m x later (most_deliveries (must_ask H k own))
