-- Where the words of this crate's proofs are defined: its files name them from here. `.ci/words` keeps this file.
pub use Rattle.hex.proofs.HexLemmas.{IsDigits-lower_digits, decode_of-encode_lower, decode_of-ok, length-encode_with}
unfoldable pub use Rattle.hex.proofs.OnLiterals.{hex_on_literals}
pub use Rattle.hex.specs.Hex.{decode_of, encode_lower, hex_digit_value, lower_digits}
unfoldable pub use Rattle.hex.specs.Hex.{encode_with}
pub use Rattle.hex.specs.declared.error.FromHexError.{FromHexError}
pub use Rattle.memchr.specs.Find.{IsFirstByte, is_byte}
pub use Rattle.std.proofs.Common.{Bool, Err, Global, List, None, Ok, Option, Result, Some, Vec, [], add_assoc, ap, append_assoc, arith, cond, drop, eqb-true, false, get_or, inl, inr, le-leb, leb-true, length, map, nat_le, not, refl, rules, subst, suc, sym, take, true, zero, ℕ, ◌%◌, ◌&&◌, ◌++◌, ◌+◌, ◌-◌, ◌/◌, ◌<◌, ◌==◌, ◌^◌, ◌∙◌, ◌∷◌, ◌≡◌, ◌≢◌, ◌≤◌, ◌⊎◌}
pub use Rattle.std.proofs.Math.Bool.{and-false}
pub use Rattle.std.proofs.lemmas.Bool.{and_from, and_parts, cases_lt, false≢true, lt-leb, ne_eqb, not-true, or_parts}
pub use Rattle.std.proofs.lemmas.Bool.Decides.{eqb_tells}
pub use Rattle.std.proofs.lemmas.Iterator.Adapters.{position_from-zero}
pub use Rattle.std.proofs.lemmas.List.{drop-drop, length-drop, length-take, take_all, take_rest}
pub use Rattle.std.proofs.lemmas.List.Elements.{All-cons, All-nil}
pub use Rattle.std.proofs.lemmas.List.Quantifiers.{position-Some}
pub use Rattle.std.proofs.lemmas.List.Splits.{length-slice_split, slice_split_at, slice_split_first, slice_split_none}
pub use Rattle.std.proofs.lemmas.List.Sums.{fails_before_first, position_or_len_is, prefix_len-le-length}
pub use Rattle.std.proofs.lemmas.Option.{same_Some, slice_get-get_or}
pub use Rattle.std.specs.Char.{digit_value}
pub use Rattle.std.specs.List.{AllByRecursion, join_with_byte, list_all, list_any, position_from, position_or_len, slice_split}
pub use Rattle.std.specs.Option.{option_or}
pub use Rattle.std.specs.Prelude.{All, IfOk, codes, decimal, option_map, position, slice_get, slice_index, unwrap_or}
pub use Rattle.std.specs.Result.{result_ok}
pub use Rattle.std.specs.Str.Parse.{AllDigits}
pub use Rattle.td_base.proofs.AddressValues.{ep_of-sound, ep_of-text}
pub use Rattle.td_base.proofs.Decimals.{digits}
pub use Rattle.td_base.proofs.Ip6Lemmas.{printed_is_spelled}
pub use Rattle.td_base.proofs.Ip6ValueLemmas.{ip6_of-sound, ip6_of-spelled}
pub use Rattle.td_base.proofs.NumberValues.{bind_some, kept_some, number_back, number_of-sound, same_text-self, same_text-true}
pub use Rattle.td_base.proofs.ResultLaws.{bind_ok}
pub use Rattle.td_base.specs.Ep.{IsEp}
pub use Rattle.td_base.specs.Ip4.{IsIp4}
pub use Rattle.td_base.specs.Ip6.{IsIp6}
pub use Rattle.td_base.specs.Ip6Texts.{AreGroups, Spells, groups, ip6_text}
pub use Rattle.td_base.specs.Ip6Values.{ip6_of}
pub use Rattle.td_base.specs.Texts.{ep_text, ip4_text}
pub use Rattle.td_base.specs.Values.{ep_of, number_of, same_text}
pub use Rattle.td_base.specs.declared.datagram.TheConstants.{DATAGRAM_MAX}
pub use Rattle.td_base.specs.declared.endpoint.Ep.{Ep}
pub use Rattle.td_base.specs.declared.ipv4.Ip4.{Ip4}
pub use Rattle.td_base.specs.declared.ipv6.Ip6.{Ip6}
pub use Rattle.topology.specs.Named.{any_kind, has_host, is_client_of, is_named, is_nat}
unfoldable pub use Rattle.topology.specs.Named.{named}
pub use Rattle.topology.specs.Names.{name_text}
unfoldable pub use Rattle.topology.specs.Names.{same_name}
pub use Rattle.topology.specs.NodeNames.{begins_with_letter, is_name_byte}
unfoldable pub use Rattle.topology.specs.NodeNames.{is_name}
pub use Rattle.topology.specs.Rows.{TopologyState}
pub use Rattle.topology.specs.Rules.{AreDistinct, IsTopology, names_of}
pub use Rattle.topology.specs.Topology.{name_of, node_at, nodes}
pub use Rattle.topology.specs.declared.node.Node.{Node}
pub use Rattle.topology.specs.declared.node_name.Name.{Name}
pub use Rattle.topology.specs.declared.node_name.TheConstants.{NAME_LEN}
pub use Rattle.events.specs.Answers.{ReadsAs}
unfoldable pub use Rattle.events.specs.Answers.{words_from}
pub use Rattle.events.specs.EventSpelling.{HasPlainNames, IsMadeTarget, event_words, hex_word, is_plain_text, name_word, target_word, word_of_name}
unfoldable pub use Rattle.events.specs.EventSpelling.{event_text}
pub use Rattle.events.specs.EventText.{TextWords, a_word, no_more, no_word, placed, said, text_words, word}
unfoldable pub use Rattle.events.specs.EventText.{event_behind, event_of}
pub use Rattle.events.specs.Events.{IsEvent, IsTarget}
pub use Rattle.events.specs.NodeWords.{target_of}
pub use Rattle.events.specs.Verbs.{verb_word}
unfoldable pub use Rattle.events.specs.Verbs.{verb_of}
pub use Rattle.events.specs.Words.{few_bytes, hex_of, space}
unfoldable pub use Rattle.events.specs.Words.{bytes_spelled}
pub use Rattle.events.specs.declared.event.Event.{Event}
pub use Rattle.events.specs.declared.event.TheConstants.{ADVANCE_MAX_MS, BODY_MAX, ENTRY_NUMBER_MAX, FAULT_MAX, SEQUENCE_MAX}
pub use Rattle.events.specs.declared.event_fault.EventFault.{EventFault}
pub use Rattle.events.specs.declared.target.Target.{Target}
pub use Rattle.events.specs.declared.verb.Verb.{Verb}
