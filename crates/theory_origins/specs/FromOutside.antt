-- Who sent a packet from outside Teredo that a client's host is handed, at once or late (RFC 4380, sections 5.2.9 and 5.4.1).
use Rattle.std.specs.Prelude.{◌≡◌, ◌∷◌, ◌++◌, ℕ, false, List, Some}
use Rattle.td_base.specs.declared.endpoint.Ep.{Ep}
use Rattle.ipv6_packet.specs.Reads.{fields_in}
use Rattle.teredo_addr.specs.Teredo.{is_teredo}
use Rattle.teredo_node.specs.Journal.{Entry}
use Rattle.topology.specs.declared.client_node.ClientNode.{ClientNode}
use Rattle.topology.specs.declared.relay_node.RelayNode.{RelayNode}
use Rattle.topology.specs.declared.native_node.NativeNode.{NativeNode}
use Rattle.topology.specs.declared.node.Node.TheVariants.{Relay as relay, Native as native}
use Rattle.topology.specs.Rules.{IsTopology}
use Rattle.topology.specs.Topology.{node_at}
use Rattle.history.specs.Full.{Full}
use Rattle.legal.specs.Lab.{Lab}
use Rattle.legal.specs.Emit.{native_packet}
use Rattle.legal.specs.Legal.{Grown}
use Rattle.legal.specs.Laws.{Makes}
use Rattle.theory_origins.specs.Origin.{PutsFrom}
use Rattle.theory_origins.specs.Outside.{ReachesHost, IsBroughtBy}

-- *sent by a native host*: its host handed the packet in, or it is its echo reply; of a relay: the native names it, and
-- has the packet's source as its address.
-- in one of these records native i sent x: its host handed it in, or x is its echo reply
pub record SentByNative (H : List Full) (i : ℕ) (h : NativeNode) (x : List ℕ) : Type 0 where
  pub later : List Full
  pub record_of : Full
  pub earlier : List Full
  pub split : H ≡ later ++ record_of ∷ earlier
  pub node : record_of.node ≡ Some i
  pub entry : Entry
  pub did : record_of.entry ≡ Some entry
  pub packet : native_packet h entry.input ≡ Some x

-- a native that names relay j sent x, and its address is the source of x
pub record IsOfNative (lab : Lab) (H : List Full) (j : ℕ) (x : List ℕ) : Type 0 where
  pub number : ℕ
  pub host : NativeNode
  pub there : node_at lab.topology number ≡ Some (native host)
  pub names : host.relay ≡ j
  pub source : (fields_in x).src ≡ host.six
  pub sent : SentByNative H number host x

-- the record that made entry number k, a datagram from there: a stranger's or a copy; or that of a relay which is there, and a
-- native that names this relay had sent x
pub data IsFromOutside (lab : Lab) (H : List Full) (k : ℕ) (from : Ep) (x : List ℕ) : Type 0 where
  put : (later earlier : List Full) (maker : Full) → Makes H k later maker earlier → PutsFrom maker.asked from → IsFromOutside lab H k from x
  relayed : (later earlier : List Full) (maker : Full) → Makes H k later maker earlier → (j : ℕ) (q : RelayNode)
      → maker.node ≡ Some j → node_at lab.topology j ≡ Some (relay q) → from ≡ q.at → IsOfNative lab (maker ∷ earlier) j x → IsFromOutside lab H k from x

-- *origin from outside Teredo*: who made each datagram that brought a packet: a named event, or a relay that had it of
-- a native.
-- a datagram brought x, and who sent each that did: where these bytes came twice and were held, each time
pub record HasOutsideOrigin (lab : Lab) (H : List Full) (r : Full) (n : ℕ) (x : List ℕ) : Type 0 where
  pub brought : IsBroughtBy H r n x
  pub sender : (b : IsBroughtBy H r n x) → IsFromOutside lab H b.number b.from x

-- each from outside Teredo has such an origin, whatever strangers do
abbrev pub EachHasOutsideOrigin : Type 0
EachHasOutsideOrigin = (lab : Lab) (H : List Full) (r : Full) (n : ℕ) (c : ClientNode) (x : List ℕ) → IsTopology lab.topology → Grown lab (r ∷ H)
    → ReachesHost lab r n c x → is_teredo (fields_in x).src ≡ false → HasOutsideOrigin lab H r n x
