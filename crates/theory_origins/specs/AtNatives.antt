-- Whence packets with a Teredo source come that hosts of the IPv6 Internet are brought.
use Rattle.std.specs.Prelude.{◌≡◌, ◌∷◌, ℕ, true, List, slice_get, Some, None}
use Rattle.td_base.specs.declared.endpoint.Ep.{Ep}
use Rattle.td_base.specs.declared.ipv6.Ip6.{Ip6}
use Rattle.td_base.specs.declared.span.Span.{Span}
use Rattle.ipv6_packet.specs.Reads.{fields_in}
use Rattle.teredo_addr.specs.Teredo.{is_teredo, embedded}
use Rattle.teredo_node.specs.Step.{part}
use Rattle.bubble.specs.Bubbles.{bubble_bytes}
use Rattle.client_rules.specs.Tries.{test_bytes}
use Rattle.topology.specs.declared.client_node.ClientNode.{ClientNode}
use Rattle.topology.specs.declared.native_node.NativeNode.{NativeNode}
use Rattle.topology.specs.declared.node.Node.{Node}
use Rattle.topology.specs.declared.node.Node.TheVariants.{Native as native}
use Rattle.topology.specs.Rules.{IsTopology}
use Rattle.topology.specs.Topology.{node_at, client_at}
use Rattle.topology.specs.Chains.{nat_set_up}
use Rattle.history.specs.Full.{udp, six, Full, wire}
use Rattle.legal.specs.Lab.{Lab}
use Rattle.legal.specs.Legal.{Grown}
use Rattle.legal.specs.Laws.{Makes}
use Rattle.legal.specs.GivesPacket.{PassesOn}
use Rattle.theory_settled.specs.Clients.{client_address}
use Rattle.theory_origins.specs.Sources.{outermost}
use Rattle.theory_origins.specs.Origin.{HasOrigin}

-- the record delivers entry number k of the wire, which is the packet x, to a native
-- Premise: a record of a native host: its `node` is `native`, and the `packet` is the entry that is `delivered`.
pub record ComesToNative (lab : Lab) (H : List Full) (r : Full) (k : ℕ) (x : List ℕ) : Type 0 where
  pub number : ℕ
  pub host : NativeNode
  pub node : r.node ≡ Some number
  pub native : node_at lab.topology number ≡ Some (native host)
  pub delivered : r.delivered ≡ Some k
  pub packet : slice_get (wire H) k ≡ Some (six None x)

-- *client's own making*: a test or a bubble: what no host handed in.
-- what a client with the address p makes of itself for q: a test, or a bubble
pub data IsOwnMaking (p q : Ip6) (x : List ℕ) : Type 0 where
  test_of : (nonce : ℕ) → x ≡ test_bytes p q nonce → IsOwnMaking p q x
  bubble_of : x ≡ bubble_bytes p q → IsOwnMaking p q x

-- who sent the datagram in entry number k, in which x is: as of a packet that a client's host is handed; or a client made x
-- itself while p was its address, and its datagram left from the endpoint that this embeds. A client's bubble comes to a
-- native where somebody speaks for a server
pub data IsFromSource (lab : Lab) (H : List Full) (k : ℕ) (p : Ip6) (x : List ℕ) : Type 0 where
  handed_in : HasOrigin lab H k p x → IsFromSource lab H k p x
  own_making : (later earlier : List Full) (maker : Full) → Makes H k later maker earlier → (n : ℕ) (c : ClientNode)
      → client_at lab.topology n ≡ Some c → maker.node ≡ Some n → client_address lab earlier n c ≡ Some p
      → IsOwnMaking p (fields_in x).dst x
      → (embedded p).ip ≡ (nat_set_up lab.topology (outermost lab c)).external → IsFromSource lab H k p x

-- *passed on to a native host*: so given, out of a datagram from the endpoint that the packet's Teredo source embeds.
-- entry number k is x, for no relay: a server or a relay made it on the delivery of a datagram from the endpoint that p embeds
pub record WasPassedOn (lab : Lab) (H : List Full) (k : ℕ) (p : Ip6) (x : List ℕ) : Type 0 where
  pub later : List Full
  pub maker : Full
  pub earlier : List Full
  pub makes : Makes H k later maker earlier
  pub node : ℕ
  pub row : Node
  pub there : node_at lab.topology node ≡ Some row
  pub passes : PassesOn row
  pub acts : maker.node ≡ Some node
  pub number : ℕ
  pub delivered : maker.delivered ≡ Some number
  pub dst : Ep
  pub bytes : List ℕ
  pub datagram : slice_get (wire earlier) number ≡ Some (udp (embedded p) dst bytes)
  pub span : Span
  pub whole : x ≡ part bytes span
  pub sender : IsFromSource lab earlier number p x

-- each packet with a Teredo source that comes to a native was passed on so, whatever strangers do
abbrev pub EachWasPassedOn : Type 0
EachWasPassedOn = (lab : Lab) (H : List Full) (r : Full) (k : ℕ) (x : List ℕ) → IsTopology lab.topology → Grown lab (r ∷ H)
    → ComesToNative lab H r k x → is_teredo (fields_in x).src ≡ true → WasPassedOn lab H k (fields_in x).src x
