-- Where the words of this crate's proofs are defined: its files name them from here. `.ci/words` keeps this file.
pub use Rattle.byteorder.specs.Endian.{big_bytes, big_number}
pub use Rattle.byteorder.specs.Numbers.{big_number-reads_back}
pub use Rattle.std.proofs.Common.{Bool, Err, List, Ok, Result, [], ap, append_assoc, arith, drop, false, inl, inr, length, not, refl, rules, subst, suc, sym, take, true, zero, ℕ, ◌%◌, ◌*◌, ◌++◌, ◌+◌, ◌-◌, ◌/◌, ◌<◌, ◌^◌, ◌∙◌, ◌∷◌, ◌≡◌, ◌≤◌, ◌⊎◌}
pub use Rattle.std.proofs.lemmas.Bool.{cond-false, eq-eqb, eqb-false, eqb-true, le-ltb, ltb-false, ltb-true, not-false, not-true}
pub use Rattle.std.proofs.lemmas.List.{drop-drop, drop_at, drop_more, length-drop, length-take, take_at, take_rest}
pub use Rattle.std.specs.Prelude.{IfErr, IfOk, bit_and, replicate, slice_index}
pub use Rattle.td_base.proofs.BytesLemmas.{AreBytes, IsBytes-append, IsBytes-drop, IsBytes-take, byte_first, cut, cut_2, front_more, front_none, front_writes, no_bytes, number_first, two_fits}
pub use Rattle.td_base.proofs.ResultLaws.{bind_ok}
pub use Rattle.td_base.proofs.SumLemmas.{added, folded_again, halves_sum-append, nothing_summed, number_summed}
pub use Rattle.td_base.specs.Bytes.{IsBytes, Writes, number_at}
pub use Rattle.td_base.specs.Ep.{IsEp}
pub use Rattle.td_base.specs.Ip4.{IsIp4}
pub use Rattle.td_base.specs.Results.{Gives, ◌>>=◌}
pub use Rattle.td_base.specs.Sums.{StandsForSum, folded, halves_sum, internet_checksum}
pub use Rattle.td_base.specs.declared.datagram.TheConstants.{DATAGRAM_MAX}
pub use Rattle.td_base.specs.declared.endpoint.Ep.{Ep}
pub use Rattle.td_ipv4.specs.Checksums.{other_spelling, plain_udp4, pseudo_head}
unfoldable pub use Rattle.td_ipv4.specs.Checksums.{head_checksum, made_bytes, made_udp4, udp_checksum}
pub use Rattle.td_ipv4.specs.Datagrams.{IsUdp4, Udp4Bytes, Udp4Fields, fixed_head, total_len, udp4_view, udp_head, udp_len}
unfoldable pub use Rattle.td_ipv4.specs.Datagrams.{udp4_bytes}
pub use Rattle.td_ipv4.specs.Faults.{HasIp4Head, IsFirstIp4Fault, IsIp4Long, IsIpv4, IsOfUdp, IsWholeIp4}
pub use Rattle.td_ipv4.specs.Laws.{ChecksumsVerify, MadeIsUdp4, Udp4IsBytes, Udp4IsSpelled, Udp4ReadsBack}
pub use Rattle.td_ipv4.specs.Tests.{head_len, head_tests, udp_tests, unless_any}
unfoldable pub use Rattle.td_ipv4.specs.Tests.{udp4_at, udp4_fields, udp_fault, udp_place}
pub use Rattle.td_ipv4.specs.declared.fault.Ip4Fault.{Ip4Fault}
pub use Rattle.td_ipv4.specs.declared.fault.Ip4Fault.TheVariants.{Short}
pub use Rattle.td_ipv4.specs.declared.numbers.TheConstants.{UDP, UDP_HEAD}
