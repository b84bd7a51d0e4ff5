-- Where the words of this crate's proofs are defined: its files name them from here. `.ci/words` keeps this file.
pub use Rattle.byteorder.specs.Endian.{big_bytes}
pub use Rattle.byteorder.specs.Numbers.{big_number-reads_back}
pub use Rattle.std.proofs.Common.{Bool, Err, List, Ok, Result, [], ap, arith, cond, drop, eqb, false, inl, inr, leb, length, ltb, not, refl, subst, suc, sym, take, true, zero, ℕ, ◌%◌, ◌*◌, ◌++◌, ◌+◌, ◌-◌, ◌<◌, ◌^◌, ◌∙◌, ◌∷◌, ◌≡◌, ◌≢◌, ◌≤◌, ◌⊎◌}
pub use Rattle.std.proofs.lemmas.Bool.{cond-false, cond-true, eq-eqb, eqb-false, eqb-true, le-leb, le-ltb, leb-false, leb-true, lt-leb, lt-ltb, ltb-false, ltb-true, ne_eqb, not-false, not-true}
pub use Rattle.std.proofs.lemmas.List.{drop-drop, drop_all, drop_at, drop_more, get_or-drop, get_or-take, get_or_append_left, length-drop, length-take, take_at, take_rest}
pub use Rattle.std.proofs.lemmas.Result.{err_from_is_err_and}
pub use Rattle.std.specs.List.{AllByRecursion}
pub use Rattle.std.specs.Prelude.{IfErr, IfOk, IsTrue, slice_index}
pub use Rattle.td_base.proofs.BytesLemmas.{AreBytes, byte_first, cut, cut_2, cut_4, four_fits, front_more, front_none, number_first, two_fits}
pub use Rattle.td_base.proofs.ResultLaws.{bind_ok, chosen, guard_err, guard_ok}
pub use Rattle.td_base.proofs.SumLemmas.{added, halves_sum-append, long_number_summed, nothing_summed}
pub use Rattle.td_base.specs.Bytes.{IsBytes, IsPut, number_at}
unfoldable pub use Rattle.td_base.specs.Reach.{is_link_local}
pub use Rattle.td_base.specs.Results.{Gives, ◌>>=◌}
pub use Rattle.td_base.specs.Sums.{StandsForSum, halves_sum}
pub use Rattle.td_base.specs.declared.ipv6.Ip6.{Ip6}
pub use Rattle.icmp6.specs.Blocks.{blocks_at, if_whole, option_of, options_of}
unfoldable pub use Rattle.icmp6.specs.Blocks.{options_at}
pub use Rattle.icmp6.specs.Checksum.{summed_head}
unfoldable pub use Rattle.icmp6.specs.Checksum.{checksum_of}
pub use Rattle.icmp6.specs.Faults.{AreWholeUpTo, HasFields, HasOptionsAt, IsFirstMessageFault, IsNear, IsOptionFault, IsSummed, is_known, is_router, least_len}
pub use Rattle.icmp6.specs.Grammar.{IsOfRouter, IsValid, MessageBytes, MessageFits}
pub use Rattle.icmp6.specs.Laws.{MessageIsBytes, MessageReadsBack, OptionsReadBack, SpellingIsRead, tail_of}
pub use Rattle.icmp6.specs.Layout.{layout, message_len}
unfoldable pub use Rattle.icmp6.specs.Layout.{message_bytes}
pub use Rattle.icmp6.specs.Message.{Message, echo_reply, echo_request, has_code, has_hop, has_len, has_source, message_view, options_in, other, router_advert, router_solicit}
unfoldable pub use Rattle.icmp6.specs.Message.{advert_at, echo_reply_at, echo_request_at, message_at, solicit_at}
pub use Rattle.icmp6.specs.Options.{AreOptions, IsOption, joined_blocks}
unfoldable pub use Rattle.icmp6.specs.Options.{option_len, whole_options}
pub use Rattle.icmp6.specs.declared.fault.IcmpFault.{IcmpFault}
pub use Rattle.icmp6.specs.declared.fault.IcmpFault.TheVariants.{Code, HopLimit, OptionCut, OptionZero, Short, Source, Sum}
pub use Rattle.icmp6.specs.declared.opt.Opt.{Opt}
pub use Rattle.icmp6.specs.declared.opt.Opt.TheVariants.{Mtu, Prefix}
