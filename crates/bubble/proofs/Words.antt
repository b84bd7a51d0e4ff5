-- Where the words of this crate's proofs are defined: its files name them from here. `.ci/words` keeps this file.
pub use Rattle.std.proofs.Common.{Bool, Err, List, None, Ok, Option, Result, Some, [], ap, append_assoc, arith, cond, drop, eqb, false, inl, inr, length, ltb, refl, subst, suc, sym, take, true, zero, ℕ, ◌++◌, ◌+◌, ◌-◌, ◌<◌, ◌∙◌, ◌∷◌, ◌≡◌, ◌≤◌, ◌⊎◌}
pub use Rattle.std.proofs.Math.Bool.{and-false}
pub use Rattle.std.proofs.lemmas.Bool.{cond-false, cond-true, le-ltb, lt-ltb, ltb-false, ltb-true}
pub use Rattle.std.proofs.lemmas.List.{append-nil, drop_all, drop_at, length-append, length-drop, take_at, take_rest}
pub use Rattle.std.proofs.lemmas.Result.{err_from_is_err_and}
pub use Rattle.std.specs.Prelude.{IfSome, if◌then◌else◌, is_err, option_map, replicate}
pub use Rattle.td_base.proofs.BytesLemmas.{IsBytes-append, IsBytes-drop, IsBytes-take, no_bytes}
pub use Rattle.td_base.proofs.ResultLaws.{guard_err, guard_ok}
pub use Rattle.td_base.specs.Bytes.{IsBytes, Writes}
pub use Rattle.td_base.specs.Ep.{IsEp}
pub use Rattle.td_base.specs.Ip6.{IsIp6}
pub use Rattle.td_base.specs.declared.endpoint.Ep.{Ep}
pub use Rattle.td_base.specs.declared.ipv6.Ip6.{Ip6}
pub use Rattle.td_base.specs.declared.refusals.Room.{Room}
pub use Rattle.ipv6_packet.proofs.LawProofs.{packet_is_bytes, packet_is_spelled}
pub use Rattle.ipv6_packet.proofs.PacketLaws.{packet_again, packet_begins, packet_fault, packet_found, packet_len}
pub use Rattle.ipv6_packet.specs.Packets.{Fields, packet_view}
unfoldable pub use Rattle.ipv6_packet.specs.Packets.{fields_of, packet_at, packet_bytes}
pub use Rattle.ipv6_packet.specs.Reads.{fields_or, is_ok_packet, no_fields}
unfoldable pub use Rattle.ipv6_packet.specs.Reads.{fields_in, is_big, is_packet}
pub use Rattle.ipv6_packet.specs.declared.fault.PacketFault.{PacketFault}
pub use Rattle.ipv6_packet.specs.declared.fault.PacketFault.TheVariants.{Length, Short}
pub use Rattle.ipv6_packet.specs.declared.header.TheConstants.{HEADER}
pub use Rattle.icmp6.proofs.AgainLaws.{length-message_bytes, written_again as message_again}
pub use Rattle.icmp6.specs.Layout.{message_bytes}
pub use Rattle.icmp6.specs.Message.{Message, message_at}
pub use Rattle.icmp6.specs.declared.fault.IcmpFault.{IcmpFault}
pub use Rattle.indications.proofs.FaultLaws.{lead_fault}
pub use Rattle.indications.proofs.FoundLaws.{are_before, lead_found}
pub use Rattle.indications.proofs.LawProofs.{lead_is_bytes}
pub use Rattle.indications.proofs.LeadLaws.{given_fits, indications_bytes_len, lead_again}
pub use Rattle.indications.specs.Blocks.{AreSpansBefore, LeadBytes, blocks_bytes, blocks_given, indications_bytes, indications_len, lead, origin}
unfoldable pub use Rattle.indications.specs.Indications.{auth_at, head_at, lead_at, origin_at}
pub use Rattle.indications.specs.Leads.{origin_in}
unfoldable pub use Rattle.indications.specs.Places.{lead_by}
pub use Rattle.indications.specs.declared.blocks.Lead.{Lead}
pub use Rattle.indications.specs.declared.fault.LeadFault.{LeadFault}
pub use Rattle.indications.specs.declared.fault.LeadFault.TheVariants.{Cut, Order}
pub use Rattle.indications.specs.declared.places.Places.{Places}
pub use Rattle.bubble.specs.Bubbles.{bubble_bytes, bubble_of, packet_kind}
unfoldable pub use Rattle.bubble.specs.Bubbles.{is_bubble}
pub use Rattle.bubble.specs.Laws.{BubbleReadsBack, MayBeCarried, MayBeSent, MessageIsCarried, PacketGoesOn, PacketIsPayload, PayloadIsBytes, PayloadIsSpelled, PayloadReadsBack, ReadsPayload, SpelledPayloadIsRead}
pub use Rattle.bubble.specs.Messages.{accepted, message_packet}
unfoldable pub use Rattle.bubble.specs.Messages.{is_ill_formed, message_in}
unfoldable pub use Rattle.bubble.specs.PacketsIn.{destination_in, packet_given, packet_in, source_in}
pub use Rattle.bubble.specs.Payloads.{IsFirstPayloadFault, PayloadBytes, Value, value_written, with_lead, with_packet}
unfoldable pub use Rattle.bubble.specs.Payloads.{payload_at}
pub use Rattle.bubble.specs.Reads.{is_ok_payload, no_value, payload_bytes, value_or}
unfoldable pub use Rattle.bubble.specs.Reads.{is_payload, value_in}
pub use Rattle.bubble.specs.declared.fault.PayloadFault.{PayloadFault}
