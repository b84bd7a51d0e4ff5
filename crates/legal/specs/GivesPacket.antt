-- What goes on to the IPv6 side out of a datagram: its packet, by a server or a relay (RFC 4380, sections 5.3.1 and 5.4.2).
use Rattle.std.specs.Prelude.{◌≡◌, ℕ, true, List, Some}
use Rattle.td_base.specs.Bytes.{IsBytes}
use Rattle.td_base.specs.declared.endpoint.Ep.{Ep}
use Rattle.td_base.specs.declared.span.Span.{Span}
use Rattle.ipv6_packet.specs.Laws.{ReadsPacket}
use Rattle.teredo_addr.specs.Teredo.{is_teredo, embedded}
use Rattle.bubble.specs.Reads.{is_payload, value_in}
use Rattle.teredo_node.specs.Step.{part, rest_of}
use Rattle.teredo_node.specs.Journal.{arrived}
use Rattle.topology.specs.declared.node.Node.{Node}
use Rattle.topology.specs.declared.node.Node.TheVariants.{Server as server, Relay as relay}
use Rattle.history.specs.Full.{Full}
use Rattle.legal.specs.Lab.{Lab}
use Rattle.legal.specs.Emit.{entry_of}

-- a server or a relay
abbrev pub PassesOn : Node → Type 0
PassesOn (server a) = Unit {0}
PassesOn (relay r) = Unit {0}
PassesOn _ = ⊥

-- *given to the IPv6 side*: the packet of a datagram that a server or a relay was given.
-- node a gives this part of x to the IPv6 side: the packet of a payload, which came from the endpoint that a Teredo source embeds
pub record GivesPacket (a : Node) (from : Ep) (x : List ℕ) (span : Span) : Type 0 where
  pub passes : PassesOn a
  pub payload : is_payload x ≡ true
  pub whole : span ≡ rest_of (value_in x).lead.at x
  pub reads : IsBytes x → ReadsPacket (value_in x).packet (part x span)
  pub embeds : is_teredo (value_in x).packet.src ≡ true → from ≡ embedded (value_in x).packet.src

-- each node that gives something of a datagram does so
abbrev pub EachGivesPacket : Type 0
EachGivesPacket = (lab : Lab) (H : List Full) (m n : ℕ) (dst from : Ep) (x : List ℕ) (a : Node) (span : Span)
    → (entry_of lab H m n dst (arrived from x) a).step.six ≡ Some span → GivesPacket a from x span
