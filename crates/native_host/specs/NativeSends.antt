-- What a native host sends: packets of its own, and replies to echo requests.
use Rattle.std.specs.Prelude.{◌≡◌, ◌≤◌, ℕ, true, false, List, length, Some}
use Rattle.td_base.specs.Bytes.{IsBytes}
use Rattle.td_base.specs.Ip6.{same_ip6}
use Rattle.td_base.specs.Reach.{is_global6}
use Rattle.td_base.specs.declared.ipv6.Ip6.{Ip6}
use Rattle.td_base.specs.declared.datagram.TheConstants.{DATAGRAM_MAX}
use Rattle.ipv6_packet.specs.Packets.{packet_bytes}
use Rattle.ipv6_packet.specs.Reads.{is_big, is_packet, fields_in}
use Rattle.icmp6.specs.Message.{echo_request, echo_reply}
use Rattle.bubble.specs.Messages.{message_in, message_packet}
use Rattle.native_host.specs.declared.limits.TheConstants.{HOST_HOP}
use Rattle.native_host.specs.Natives.{native_out, native_in}

-- what goes out is the packet that it was given, from its own address to a global one
pub record IsOwnPacket (own : Ip6) (x y : List ℕ) : Type 0 where
  pub same : y ≡ x
  pub packet : is_packet x ≡ true
  pub short : is_big (fields_in x) ≡ false
  pub source : same_ip6 (fields_in x).src own ≡ true
  pub global : is_global6 (fields_in x).dst ≡ true

-- of its own it sends what it was given, from its address to a global one
abbrev pub EachIsOwnPacket : Type 0
EachIsOwnPacket = (own : Ip6) (x y : List ℕ) → (native_out own x).packet ≡ Some y → IsOwnPacket own x y

-- what it answers is the reply to an echo request from a global address, and goes back there
pub record IsReply (x y : List ℕ) : Type 0 where
  pub id : ℕ
  pub seq : ℕ
  pub body : List ℕ
  pub request : message_in (fields_in x) ≡ Some (echo_request id seq body)
  pub global : is_global6 (fields_in x).src ≡ true
  pub reply : y ≡ packet_bytes (message_packet HOST_HOP (fields_in x).dst (fields_in x).src (echo_reply id seq body))

-- else it sends replies to echo requests alone
abbrev pub EachIsReply : Type 0
EachIsReply = (x y : List ℕ) → (native_in x).packet ≡ Some y → IsReply x y

-- bytes, and not too many
pub record IsMadePacket (x : List ℕ) : Type 0 where
  pub bytes : IsBytes x
  pub short : length x ≤ DATAGRAM_MAX

-- a reply is, where what came is
abbrev pub EachReplyIsMade : Type 0
EachReplyIsMade = (x y : List ℕ) → IsMadePacket x → (native_in x).packet ≡ Some y → IsMadePacket y
