-- Where the words of this crate's proofs are defined: its files name them from here. `.ci/words` keeps this file.
pub use Rattle.byteorder.specs.Endian.{big_bytes, big_from, big_number, little_number}
pub use Rattle.byteorder.specs.Numbers.{big_from-cons, big_from-lt}
pub use Rattle.std.proofs.Common.{Bool, Equal, Err, Greater, Less, List, None, Ok, Option, Ordering, Result, Some, T, [], ap, arith, cond, drop, drop-cons, eq-zero-or-pos, eqb, eqb→eq, false, get_or, if◌then◌else◌, inl, inr, le-leb, le-ltb, leb-true, length, lit<, lit≤, lt-ltb, ltb, map, nat_le, nat_lt, refl, replicate, rules, subst, suc, sym, take, true, zero, zero-add, ℕ, ◌%◌, ◌&&◌, ◌*◌, ◌++◌, ◌+◌, ◌-◌, ◌/◌, ◌<◌, ◌==◌, ◌^◌, ◌∙◌, ◌∷◌, ◌≡◌, ◌≢◌, ◌≤◌, ◌⊎◌}
pub use Rattle.std.proofs.Math.Nat.{mul-le-mul_right, pow-le-pow_right, pow-suc}
pub use Rattle.std.proofs.Math.Seq.{take-append-add}
pub use Rattle.std.proofs.NetLemmas.Arrays.{eight_items, sixteen_items}
pub use Rattle.std.proofs.NetLemmas.Ipv6.{EndsGroups-nil, read_ipv6_complete}
pub use Rattle.std.proofs.NetLemmas.Options.{same_parts}
pub use Rattle.std.proofs.NetLemmas.Texts.{AllSegments-drop, AllSegments-take, IsZeroRun-longest_zero_run}
pub use Rattle.std.proofs.lemmas.Bool.{and_from, and_parts, cases_lt, false_from_ne_true, lt-leb, ne_eqb}
pub use Rattle.std.proofs.lemmas.Bool.Decides.{Decides-eqb, nat_tests, same_from_decides}
pub use Rattle.std.proofs.lemmas.Fmt.{decimal_digit, decimal_injective, decimal_nonempty, decimal_step, digits_decimal, digits_value-decimal, first_decimal}
pub use Rattle.std.proofs.lemmas.Grind.{common_steps}
pub use Rattle.std.proofs.lemmas.Int.Digits.{digits_more, digits_value-lt, digits_value_more, digits_value_push}
pub use Rattle.std.proofs.lemmas.List.{append-nil, drop-drop, drop_all, drop_at, get_or-drop, get_or-take, get_or_at, get_or_past, length-replicate, length-take, take_at, take_rest}
pub use Rattle.std.proofs.lemmas.List.Elements.{All-append, All-cons, All-nil}
pub use Rattle.std.proofs.lemmas.List.Splits.{join_with_byte-slice_split, length-slice_split, slice_split_at, slice_split_none}
pub use Rattle.std.proofs.lemmas.Nat.{be_bytes_2, be_bytes_4, be_bytes_8}
pub use Rattle.std.proofs.lemmas.Option.{same_Some}
pub use Rattle.std.proofs.lemmas.Result.{IfErr-weaker, err_from_is_err_and, on_ok_weaker}
pub use Rattle.std.proofs.lemmas.Str.Parse.{IsNumeralModel, digit_at, digit_from_value, digits_value-take-le, numerals_by_value, tells_digits}
pub use Rattle.std.specs.Bool.{Decides}
pub use Rattle.std.specs.Char.{digit_char, digit_value}
pub use Rattle.std.specs.Cmp.{nat_cmp_is}
pub use Rattle.std.specs.Cmp.Lexicographic.{pointwise_decides, slice_cmp}
pub use Rattle.std.specs.Int.{byte_at}
pub use Rattle.std.specs.List.{AllByRecursion, join_with_byte, list_all, slice_split}
pub use Rattle.std.specs.Net.Grammar.{IsColonHex, IsGroups, IsGroupsAfter}
pub use Rattle.std.specs.Net.Text.{groups_text, longest_zero_run, zero_run}
unfoldable pub use Rattle.std.specs.Net.Text.{hex, hex_groups_text}
pub use Rattle.std.specs.Ordering.{nat_cmp, ordering_then}
pub use Rattle.std.specs.Prelude.{All, IfOk, IfSome, OnErr, OnOk, codes, decimal, flat_map, option_map, slice_index, ◌↔◌}
pub use Rattle.std.specs.Result.{IsOk, result_ok}
pub use Rattle.std.specs.Str.Parse.{AllDigits, digits_value}
pub use Rattle.td_base.specs.Bytes.{IsBytes, IsPut, Writes, number_at}
pub use Rattle.td_base.specs.Ep.{IsEp}
pub use Rattle.td_base.specs.Fronts.{Halts, HaltsThen, NoneGoesOn, NumberThen, so_far}
pub use Rattle.td_base.specs.Ip4.{IsIp4, same_ip, same_ip_decides}
pub use Rattle.td_base.specs.Ip6.{IsIp6, same_ip6, same_ip6-true, same_ip6_decides}
unfoldable pub use Rattle.td_base.specs.Ip6.{cmp_ip6}
pub use Rattle.td_base.specs.Ip6Fronts.{Accepts, AfterHead, AfterTail, Elided, GroupThen, IsFrontGroup, NoHex, Tail, Whole}
pub use Rattle.td_base.specs.Ip6Texts.{AreGroups, IsElided, IsGroup, IsIp6Text, Spells, groups, ip6_text}
pub use Rattle.td_base.specs.Ip6Values.{address, all_eight, begins_with_colon, behind, each_group, elided_at, is_group, numbers_of}
unfoldable pub use Rattle.td_base.specs.Ip6Values.{group_of, groups_of}
pub use Rattle.td_base.specs.Laws.{TextsAreMade}
pub use Rattle.td_base.specs.Sums.{IsSummedOn, StandsForSum, folded, halves_sum}
pub use Rattle.td_base.specs.Texts.{Begins, IsEpText, IsIp4Text, IsLongestBegin, IsNumberText, ep_text, ip4_text}
pub use Rattle.td_base.specs.Values.{ep_of_parts, ip4_of_parts, same_text}
unfoldable pub use Rattle.td_base.specs.Values.{ep_of, ip4_of, number_of}
pub use Rattle.td_base.specs.declared.digits.TheConstants.{PAIRS}
pub use Rattle.td_base.specs.declared.endpoint.Ep.{Ep}
pub use Rattle.td_base.specs.declared.ipv4.Ip4.{Ip4}
pub use Rattle.td_base.specs.declared.ipv6.Ip6.{Ip6}
pub use Rattle.td_base.specs.declared.refusals.Room.{Room}
