-- Where the words of this crate's proofs are defined: its files name them from here. `.ci/words` keeps this file.
pub use Rattle.std.proofs.Common.{Bool, Err, List, None, Ok, Option, Result, Some, [], ap, arith, cond, drop, false, length, refl, subst, sym, take, true, ℕ, ◌+◌, ◌-◌, ◌<◌, ◌==◌, ◌∙◌, ◌∷◌, ◌≡◌, ◌≤◌}
pub use Rattle.std.proofs.lemmas.Bool.{false≢true, not-false}
pub use Rattle.std.specs.Prelude.{is_some, nat_lt, not, replicate, unwrap_or, ◌/◌, ◌^◌}
pub use Rattle.td_base.proofs.BytesLemmas.{IsBytes-drop}
pub use Rattle.td_base.proofs.WriteLemmas.{has_room, stands_in_front}
pub use Rattle.td_base.specs.Bytes.{IsBytes, number_at}
pub use Rattle.td_base.specs.Ip6.{IsIp6, same_ip6}
unfoldable pub use Rattle.td_base.specs.Reach.{is_global6}
pub use Rattle.td_base.specs.declared.ipv6.Ip6.{Ip6}
pub use Rattle.ipv6_packet.proofs.LawProofs.{packet_is_bytes, packet_is_spelled}
pub use Rattle.ipv6_packet.proofs.PacketLaws.{packet_len}
pub use Rattle.ipv6_packet.specs.Packets.{Fields, packet_bytes}
unfoldable pub use Rattle.ipv6_packet.specs.Packets.{fields_of, packet_at}
pub use Rattle.ipv6_packet.specs.Reads.{fields_or, is_big, is_ok_packet, no_fields}
unfoldable pub use Rattle.ipv6_packet.specs.Reads.{fields_in, is_packet}
pub use Rattle.ipv6_packet.specs.declared.fault.PacketFault.{PacketFault}
pub use Rattle.ipv6_packet.specs.declared.fault.PacketFault.TheVariants.{Length, Short, Version}
pub use Rattle.ipv6_packet.specs.declared.header.TheConstants.{HEADER, NEXT_ICMP, VERSION}
pub use Rattle.icmp6.proofs.FoundLaws.{read_found}
pub use Rattle.icmp6.proofs.LawProofs.{message_is_bytes}
pub use Rattle.icmp6.specs.Grammar.{MessageBytes, MessageFits}
unfoldable pub use Rattle.icmp6.specs.Layout.{message_bytes}
pub use Rattle.icmp6.specs.Message.{Message, echo_reply, echo_request, message_at, other, router_advert, router_solicit}
pub use Rattle.icmp6.specs.declared.fault.IcmpFault.{IcmpFault}
pub use Rattle.icmp6.specs.declared.numbers.TheConstants.{ECHO_LEN}
pub use Rattle.bubble.proofs.LawProofs.{message_is_carried}
pub use Rattle.bubble.proofs.MadeInputs.{no_packet_in}
pub use Rattle.bubble.specs.Messages.{accepted, message_packet}
unfoldable pub use Rattle.bubble.specs.Messages.{message_in}
pub use Rattle.teredo_node.proofs.FirstLines.{by_lines}
pub use Rattle.teredo_node.specs.declared.fate.Fate.{Fate}
pub use Rattle.native_host.specs.NativeSends.{EachIsOwnPacket, EachIsReply, EachReplyIsMade, IsMadePacket, IsOwnPacket, IsReply}
pub use Rattle.native_host.specs.Natives.{echo_of, just_kept, native_row, sent_by}
unfoldable pub use Rattle.native_host.specs.Natives.{native_in, native_out}
pub use Rattle.native_host.specs.declared.limits.TheConstants.{HOST_DATA_NEXT, HOST_ECHO_ID, HOST_HOP}
