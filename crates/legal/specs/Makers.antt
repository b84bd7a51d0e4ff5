-- What each entry of the wire is: a datagram from nowhere, one of the sends of the node that made it, or a packet on its way
-- on the IPv6 side.
use Rattle.std.specs.Prelude.{◌≡◌, ℕ, List, ◌∷◌, Contains, slice_get, Some, None, Ok}
use Rattle.std.specs.List.{AllByRecursion}
use Rattle.td_base.specs.declared.endpoint.Ep.{Ep}
use Rattle.td_base.specs.declared.span.Span.{Span}
use Rattle.nat_kinds.specs.Laws.{IsPast}
use Rattle.teredo_node.specs.Step.{Send, part}
use Rattle.teredo_node.specs.Journal.{arrived, Entry}
use Rattle.topology.specs.declared.server_node.ServerNode.{ServerNode}
use Rattle.topology.specs.declared.client_node.ClientNode.{ClientNode}
use Rattle.topology.specs.declared.relay_node.RelayNode.{RelayNode}
use Rattle.topology.specs.declared.native_node.NativeNode.{NativeNode}
use Rattle.topology.specs.declared.node.Node.{Node}
use Rattle.topology.specs.declared.node.Node.TheVariants.{Server as server, Client as client, Relay as relay, Native as native}
use Rattle.topology.specs.Topology.{own_ep}
use Rattle.topology.specs.Chains.{Passing, nat_set_up, after_passing, way_out, crossing}
use Rattle.events.specs.declared.event.Event.{Event}
use Rattle.events.specs.declared.event.Event.TheVariants as event
use Rattle.history.specs.Full.{Item, udp, six, Full, wire, items_of, bytes_of}
use Rattle.legal.specs.Lab.{Lab}
use Rattle.legal.specs.Past.{nat_pasts}
use Rattle.legal.specs.Emit.{native_packet, relay_for}
use Rattle.legal.specs.Legal.{Grown}
use Rattle.legal.specs.Actors.{IsActOf}

-- the event puts a datagram onto the wire that says that it goes between these endpoints
pub data Forges (H : List Full) (src dst : Ep) (bytes : List ℕ) : Event → Type 0 where
  strange : Forges H src dst bytes (event.Stranger src dst bytes)
  copied : (number : ℕ) (x : Item) → slice_get (wire H) number ≡ Some x → bytes ≡ bytes_of x → Forges H src dst bytes (event.Copy number src dst)

-- a client's datagram to dst leaves its way out from src. Other datagrams of the record, that NATs let out, are before it
pub record Leaves (lab : Lab) (H : List Full) (m : ℕ) (c : ClientNode) (dst src : Ep) : Type 0 where
  pub before : List Passing
  pub pasts : (k : ℕ) → IsPast (nat_set_up lab.topology k) (after_passing before (nat_pasts lab H) k) m
  pub leaves : (crossing lab.topology (nat_pasts lab H) m dst (way_out lab.chain c.nat) c.inside before).leaves ≡ Ok src

-- *made by*: how a record made an entry: from nowhere, as a send of its node, or as a packet for the IPv6 side.
-- how the record after H made an entry
pub data MadeBy (lab : Lab) (H : List Full) (r : Full) (x : Item) : Type 0 where
  from_nowhere : (src dst : Ep) (bytes : List ℕ) → Forges H src dst bytes r.asked → x ≡ udp src dst bytes → MadeBy lab H r x
  by_server : (n : ℕ) (a : ServerNode) (e : Entry) (s : Send) → IsActOf lab H r n (server a) e → Contains e.step.sends s
      → x ≡ udp (own_ep (server a) s.side) s.to s.bytes → MadeBy lab H r x
  by_relay : (n : ℕ) (a : RelayNode) (e : Entry) (s : Send) → IsActOf lab H r n (relay a) e → Contains e.step.sends s
      → x ≡ udp a.at s.to s.bytes → MadeBy lab H r x
  by_client : (n : ℕ) (c : ClientNode) (e : Entry) (s : Send) (src : Ep) → IsActOf lab H r n (client c) e → Contains e.step.sends s
      → Leaves lab H r.moment c s.to src → x ≡ udp src s.to s.bytes → MadeBy lab H r x
  by_native : (n : ℕ) (h : NativeNode) (e : Entry) (bytes : List ℕ) → IsActOf lab H r n (native h) e → native_packet h e.input ≡ Some bytes
      → x ≡ six (relay_for h bytes) bytes → MadeBy lab H r x
  -- the packet in a datagram, from a server or a relay to the IPv6 side
  to_six : (n : ℕ) (a : Node) (e : Entry) (from : Ep) (bytes : List ℕ) (span : Span) → IsActOf lab H r n a e
      → e.input ≡ arrived from bytes → e.step.six ≡ Some span
      → x ≡ six None (part bytes span) → MadeBy lab H r x

-- each entry that a record makes is made so
abbrev pub EachItemIsMade : Type 0
EachItemIsMade = (lab : Lab) (H : List Full) (r : Full) → Grown lab (r ∷ H) → AllByRecursion (MadeBy lab H r) (items_of r)
