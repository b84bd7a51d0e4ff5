-- Where the words of this crate's proofs are defined: its files name them from here. `.ci/words` keeps this file.
pub use Rattle.byteorder.specs.Endian.{big_bytes}
pub use Rattle.byteorder.specs.Numbers.{big_number-reads_back}
pub use Rattle.std.proofs.Common.{Err, List, Ok, Result, [], ap, append_assoc, arith, cond, drop, eqb, false, get_or, inl, inr, length, ltb, not, refl, subst, sym, take, true, ℕ, ◌%◌, ◌*◌, ◌++◌, ◌+◌, ◌-◌, ◌/◌, ◌<◌, ◌^◌, ◌∙◌, ◌∷◌, ◌≡◌, ◌≤◌}
pub use Rattle.std.proofs.lemmas.Bool.{cond-false, eq-eqb, eqb-false, eqb-true, le-ltb, ltb-false, ltb-true, not-false, not-true}
pub use Rattle.std.proofs.lemmas.List.{drop_at, drop_more, length-append, length-drop, length-take, take_at, take_rest}
pub use Rattle.std.proofs.lemmas.Nat.{and_mask}
pub use Rattle.std.specs.Prelude.{IfErr, IfOk, bit_and, slice_index}
pub use Rattle.td_base.proofs.BytesLemmas.{AreBytes, IsBytes-append, IsBytes-drop, IsBytes-take, byte_first, cut, cut_2, cut_4, front_more, front_none, front_writes, no_bytes, number_first}
pub use Rattle.td_base.proofs.ResultLaws.{guard_err, guard_ok}
pub use Rattle.td_base.specs.Bytes.{IsBytes, number_at}
pub use Rattle.td_base.specs.Results.{Gives}
pub use Rattle.td_base.specs.declared.ipv6.Ip6.{Ip6}
pub use Rattle.ipv6_packet.specs.Laws.{PacketIsBytes, PacketIsSpelled, PacketReadsBack}
pub use Rattle.ipv6_packet.specs.Packets.{Fields, IsFirstPacketFault, IsPacket, PacketBytes, packet_view}
unfoldable pub use Rattle.ipv6_packet.specs.Packets.{fields_of, packet_at, packet_bytes}
pub use Rattle.ipv6_packet.specs.Reads.{fields_or, is_ok_packet}
unfoldable pub use Rattle.ipv6_packet.specs.Reads.{fields_in, is_big, is_packet}
pub use Rattle.ipv6_packet.specs.declared.fault.PacketFault.{PacketFault}
pub use Rattle.ipv6_packet.specs.declared.fault.PacketFault.TheVariants.{Length, Short, Version}
pub use Rattle.ipv6_packet.specs.declared.header.TheConstants.{HEADER, PACKET_MAX, VERSION}
