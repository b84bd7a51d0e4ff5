-- Payloads as lists of bytes: what is sent reads back.
use Rattle.std.specs.Prelude.{◌≡◌, ◌+◌, ◌<◌, ◌≤◌, ◌^◌, ℕ, List, ◌++◌, length, drop, true, false, Option, Some, None, IfSome, Ok}
use Rattle.td_base.specs.Bytes.{IsBytes}
use Rattle.td_base.specs.Ep.{IsEp}
use Rattle.td_base.specs.Ip6.{IsIp6}
use Rattle.td_base.specs.declared.endpoint.Ep.{Ep}
use Rattle.td_base.specs.declared.ipv6.Ip6.{Ip6}
use Rattle.ipv6_packet.specs.declared.header.TheConstants.{HEADER}
use Rattle.ipv6_packet.specs.Packets.{Fields, IsPacket, packet_bytes, packet_at}
use Rattle.ipv6_packet.specs.Reads.{is_big}
use Rattle.icmp6.specs.Message.{Message}
use Rattle.icmp6.specs.Layout.{message_len}
use Rattle.icmp6.specs.Grammar.{MessageFits, IsValid}
use Rattle.indications.specs.Blocks.{indications_bytes, indications_len}
use Rattle.indications.specs.Laws.{MayBeGiven}
use Rattle.td_base.specs.declared.datagram.TheConstants.{DATAGRAM_MAX}
use Rattle.bubble.specs.Payloads.{Value, PayloadBytes, payload_at, value_written}
use Rattle.bubble.specs.Bubbles.{is_bubble, bubble_of, bubble_bytes}
use Rattle.bubble.specs.Reads.{is_payload, value_in, payload_bytes}
use Rattle.bubble.specs.Messages.{message_in, is_ill_formed, message_packet}

-- x is read as the payload v
pub record ReadsPayload (v : Value) (x : List ℕ) : Type 0 where
  pub read : payload_at x ≡ Ok v
  pub is_one : is_payload x ≡ true
  pub value : value_in x ≡ v

-- a spelling is read as the payload
abbrev pub SpelledPayloadIsRead : Type 0
SpelledPayloadIsRead = (v : Value) (x : List ℕ) → PayloadBytes v x → ReadsPayload v x

-- bytes that are a payload are a spelling of it, and end in its packet's
pub record IsSpelledPayload (v : Value) (x : List ℕ) : Type 0 where
  pub spelled : PayloadBytes v x
  pub packet : drop v.lead.at x ≡ packet_bytes v.packet

-- bytes that are a payload are a spelling of it
abbrev pub PayloadIsSpelled : Type 0
PayloadIsSpelled = (x : List ℕ) → IsBytes x → is_payload x ≡ true → IsSpelledPayload (value_in x) x

-- ---- what is sent

-- what one datagram may hold
pub record MayBeSent (nonce : Option ℕ) (ep : Option Ep) (p : Fields) : Type 0 where
  pub given : MayBeGiven nonce ep
  pub packet : IsPacket p
  pub short : indications_len nonce ep + HEADER + length p.body ≤ DATAGRAM_MAX

-- it reads back
abbrev pub PayloadReadsBack : Type 0
PayloadReadsBack = (nonce : Option ℕ) (ep : Option Ep) (p : Fields) → MayBeSent nonce ep p → ReadsPayload (value_written nonce ep p) (payload_bytes nonce ep p)

-- so many bytes, which are bytes where the body is
pub record IsPayloadLong (nonce : Option ℕ) (ep : Option Ep) (p : Fields) (x : List ℕ) : Type 0 where
  pub long : length x ≡ indications_len nonce ep + HEADER + length p.body
  pub bytes : IsBytes p.body → IsBytes x

-- what is sent in one datagram is so many bytes
abbrev pub PayloadIsBytes : Type 0
PayloadIsBytes = (nonce : Option ℕ) (ep : Option Ep) (p : Fields) → MayBeSent nonce ep p → IsPayloadLong nonce ep p (payload_bytes nonce ep p)

-- ---- packets

-- a packet that isn't too long is a payload with nothing in front
abbrev pub PacketIsPayload : Type 0
PacketIsPayload = (x : List ℕ) (p : Fields) → IsBytes x → length x ≤ DATAGRAM_MAX → packet_at x ≡ Ok p → ReadsPayload (value_written None None p) x

-- a payload's packet that goes on, with an origin in front or without one
abbrev pub PacketGoesOn : Type 0
PacketGoesOn = (x : List ℕ) (v : Value) (ep : Option Ep) → IsBytes x → payload_at x ≡ Ok v → is_big v.packet ≡ false → IfSome ep IsEp
    → ReadsPayload (value_written None ep v.packet) (indications_bytes None ep ++ drop v.lead.at x)

-- a bubble that is made here
pub record ReadsBubble (src dst : Ip6) (x : List ℕ) : Type 0 where
  pub payload : ReadsPayload (value_written None None (bubble_of src dst)) x
  pub bubble : is_bubble (bubble_of src dst) ≡ true
  pub long : length x ≡ HEADER
  pub bytes : IsBytes x

-- a bubble that is made here reads back, and is a bubble
abbrev pub BubbleReadsBack : Type 0
BubbleReadsBack = (src dst : Ip6) → IsIp6 src → IsIp6 dst → ReadsBubble src dst (bubble_bytes src dst)

-- ---- messages

-- a message that a packet may carry: an echo always, a router's message where it is valid
pub record MayBeCarried (hop : ℕ) (src dst : Ip6) (m : Message) : Type 0 where
  pub hop_fits : hop < 2 ^ 8
  pub src_fits : IsIp6 src
  pub dst_fits : IsIp6 dst
  pub fits : MessageFits m
  pub valid : IsValid src hop m
  pub short : message_len m < 2 ^ 16

-- the packet p carries it
pub record CarriesMessage (m : Message) (p : Fields) : Type 0 where
  pub packet : IsPacket p
  pub message : message_in p ≡ Some m
  pub well_formed : is_ill_formed p ≡ false
  pub no_bubble : is_bubble p ≡ false
  pub long : length p.body ≡ message_len m

-- a packet that was made of a message carries it
abbrev pub MessageIsCarried : Type 0
MessageIsCarried = (hop : ℕ) (src dst : Ip6) (m : Message) → MayBeCarried hop src dst m → CarriesMessage m (message_packet hop src dst m)
