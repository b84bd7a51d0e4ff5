-- The ICMPv6 message of a packet, as a rule sees it, and packets that are messages.
use Rattle.std.specs.Prelude.{◌≡◌, ◌==◌, ◌&&◌, not, ℕ, Bool, true, false, length, Option, Some, None, IfSome, is_some}
use Rattle.std.specs.Prelude.{option_map, Result, Ok, Err, if◌then◌else◌}
use Rattle.td_base.specs.declared.ipv6.Ip6.{Ip6}
use Rattle.ipv6_packet.specs.Packets.{Fields}
use Rattle.ipv6_packet.specs.declared.header.TheConstants.{NEXT_ICMP}
use Rattle.icmp6.specs.Message.{Message, echo_reply, router_advert, message_at, message_view}
use Rattle.icmp6.specs.Layout.{message_len, message_bytes}
use Rattle.icmp6.specs.declared.message.Msg.{Msg}
use Rattle.icmp6.specs.declared.fault.IcmpFault.{IcmpFault}

-- the message that was read, if one was
abbrev pub accepted : Result Message IcmpFault → Option Message
accepted (Ok m) = Some m
accepted (Err fault) = None

-- the ICMPv6 message of a packet, where it has one and that is accepted
unfoldable pub message_in : Fields → Option Message
message_in p = if p.next == NEXT_ICMP then accepted (message_at p.src p.dst p.hop p.body) else None

-- a message that the code read is the packet's
abbrev pub IsMessageOf : Fields → Option Msg → Type 0
IsMessageOf p message = (option_map message_view message ≡ message_in p) × IfSome message (λ m. length p.body ≡ message_len (message_view m))

-- ICMPv6, and refused
unfoldable pub is_ill_formed : Fields → Bool
is_ill_formed p = (p.next == NEXT_ICMP) && not (is_some (message_in p))

-- is it a Router Advertisement?
abbrev pub is_advert : Option Message → Bool
is_advert (Some (router_advert hop flags life reach retrans options)) = true
is_advert _ = false

-- is it an echo reply?
abbrev pub is_echo_reply : Option Message → Bool
is_echo_reply (Some (echo_reply id seq body)) = true
is_echo_reply _ = false

-- a packet that is a message
abbrev pub message_packet : ℕ → Ip6 → Ip6 → Message → Fields
message_packet hop src dst m = record { class = 0; flow = 0; next = NEXT_ICMP; hop = hop; src = src; dst = dst; body = message_bytes src dst m }
