-- Where the words of this crate's proofs are defined: its files name them from here. `.ci/words` keeps this file.
pub use Rattle.std.proofs.Common.{Bool, Err, List, None, Ok, Option, Result, Some, [], ap, append_assoc, arith, drop, false, inl, inr, length, not, refl, rules, subst, sym, take, true, ℕ, ◌&&◌, ◌++◌, ◌+◌, ◌-◌, ◌<◌, ◌^◌, ◌∙◌, ◌∷◌, ◌≡◌, ◌≤◌, ◌⊎◌}
pub use Rattle.std.proofs.lemmas.Bool.{and_parts, eqb-true, false≢true, ltb-false, not-false, or_right}
pub use Rattle.std.proofs.lemmas.Bool.Decides.{nat_tests}
pub use Rattle.std.proofs.lemmas.List.{length-append, length-drop, take_all, take_at, take_rest}
pub use Rattle.std.proofs.lemmas.List.Elements.{All-contains_itself, recursion_from_All}
pub use Rattle.std.specs.List.{AllByRecursion, Contains}
pub use Rattle.std.specs.Prelude.{IfSome, is_some, option_map, replicate, slice_index, ◌||◌}
pub use Rattle.td_base.proofs.BytesLemmas.{IsBytes-append, IsBytes-drop, are_bytes}
pub use Rattle.td_base.proofs.Lists.{all_map}
pub use Rattle.td_base.proofs.WriteLemmas.{fills, has_room, stands_in_front}
pub use Rattle.td_base.specs.Bytes.{IsBytes}
pub use Rattle.td_base.specs.Ep.{IsEp, same_ep-true, server_ep}
unfoldable pub use Rattle.td_base.specs.Ep.{same_ep}
pub use Rattle.td_base.specs.Ip4.{IsIp4, same_ip-self, same_ip-true}
unfoldable pub use Rattle.td_base.specs.Ip4.{same_ip}
pub use Rattle.td_base.specs.Ip6.{IsIp6}
unfoldable pub use Rattle.td_base.specs.Ip6.{same_ip6}
unfoldable pub use Rattle.td_base.specs.Reach.{is_global, is_global6, is_link_local, is_usable}
pub use Rattle.td_base.specs.declared.datagram.TheConstants.{DATAGRAM_MAX}
pub use Rattle.td_base.specs.declared.endpoint.Ep.{Ep}
pub use Rattle.td_base.specs.declared.ipv4.Ip4.{Ip4}
pub use Rattle.td_base.specs.declared.ipv6.Ip6.{Ip6}
pub use Rattle.td_base.specs.declared.reach.Policy.TheVariants.{Strict}
pub use Rattle.td_base.specs.declared.side.Side.{Side}
pub use Rattle.td_base.specs.declared.side.Side.TheVariants.{Primary, Secondary}
pub use Rattle.ipv6_packet.proofs.LawProofs.{packet_is_bytes}
pub use Rattle.ipv6_packet.proofs.PacketLaws.{packet_len, short_body}
pub use Rattle.ipv6_packet.specs.Packets.{Fields, packet_view}
unfoldable pub use Rattle.ipv6_packet.specs.Packets.{fields_of, packet_at, packet_bytes}
unfoldable pub use Rattle.ipv6_packet.specs.Reads.{is_big}
pub use Rattle.ipv6_packet.specs.declared.header.TheConstants.{HEADER, PACKET_MAX}
pub use Rattle.icmp6.proofs.LawProofs.{message_is_bytes, options_read_back}
unfoldable pub use Rattle.icmp6.specs.Checksum.{checksum_of}
unfoldable pub use Rattle.icmp6.specs.Layout.{message_bytes}
pub use Rattle.icmp6.specs.Message.{router_advert}
unfoldable pub use Rattle.icmp6.specs.Message.{message_at, solicit_at}
pub use Rattle.icmp6.specs.Options.{AreOptions, IsOption}
unfoldable pub use Rattle.icmp6.specs.Options.{whole_options}
pub use Rattle.icmp6.specs.declared.opt.Opt.{Opt}
pub use Rattle.icmp6.specs.declared.opt.Opt.TheVariants.{Mtu, Prefix}
pub use Rattle.teredo_addr.proofs.LawProofs.{link_local_tells}
unfoldable pub use Rattle.teredo_addr.specs.Hidden.{hidden_ep, shown_at}
unfoldable pub use Rattle.teredo_addr.specs.Teredo.{embedded, has_cone, is_teredo, link_local, server_in}
pub use Rattle.teredo_addr.specs.declared.local.TheConstants.{ALL_ROUTERS}
pub use Rattle.indications.proofs.FoundLaws.{origin_bytes_len}
pub use Rattle.indications.proofs.LawProofs.{lead_is_bytes}
pub use Rattle.indications.specs.Blocks.{AuthBlock, IsAuthBlock, indications_bytes, indications_len, nonce_len, origin_len, spans_of}
unfoldable pub use Rattle.indications.specs.Indications.{auth_at, head_at, lead_at, origin_at}
pub use Rattle.indications.specs.Leads.{nonce_of, origin_in}
unfoldable pub use Rattle.indications.specs.Leads.{is_keyed}
pub use Rattle.indications.specs.declared.blocks.Lead.{Lead}
pub use Rattle.bubble.proofs.LawProofs.{message_is_carried, packet_goes_on, payload_is_bytes, payload_is_spelled, payload_reads_back}
unfoldable pub use Rattle.bubble.specs.Bubbles.{is_bubble}
pub use Rattle.bubble.specs.Laws.{CarriesMessage, MayBeSent, ReadsPayload}
unfoldable pub use Rattle.bubble.specs.Messages.{is_ill_formed, message_in}
pub use Rattle.bubble.specs.Payloads.{PayloadBytes, Value, value_written}
unfoldable pub use Rattle.bubble.specs.Payloads.{payload_at}
pub use Rattle.bubble.specs.Reads.{is_ok_payload, payload_bytes, value_or}
unfoldable pub use Rattle.bubble.specs.Reads.{is_payload, value_in}
pub use Rattle.bubble.specs.declared.fault.PayloadFault.{PayloadFault}
pub use Rattle.teredo_node.proofs.FirstLines.{by_lines, first_of_each}
pub use Rattle.teredo_node.specs.MadeInputs.{IsMadeSend}
pub use Rattle.teredo_node.specs.Rows.{first_line}
pub use Rattle.teredo_node.specs.Step.{just}
pub use Rattle.teredo_node.specs.declared.fate.Fate.{Fate}
pub use Rattle.server_core.specs.AmongServers.{EachEndsAmongServers}
pub use Rattle.server_core.specs.Bounds.{EndsThere, IsSilent, endpoint, outcomes, outputs}
pub use Rattle.server_core.specs.Conditions.{is_solicit, server_link_local}
unfoldable pub use Rattle.server_core.specs.Conditions.{is_for_client, is_for_server, is_forged, is_looped, is_not_ours, is_other_kind, is_own, is_solicitation, is_unusable}
pub use Rattle.server_core.specs.Laws.{AdvertReadsBack, AreServerOptions, EachTellsWhereTo, FateOfRow, ForwardedReadsBack, MayBeAnswered, OneOutcome, ReadsAdvert, TellsWhereTo, row_fates}
pub use Rattle.server_core.specs.Outgoing.{EachIsFromClient, EachIsOutgoing, EachOutputIsMade, IsFromClient, IsOutgoing, adverts, goes_to_other, goes_to_own}
pub use Rattle.server_core.specs.Outputs.{advert_options, advert_packet, advertisement}
unfoldable pub use Rattle.server_core.specs.Outputs.{advert_bytes, forwarded}
pub use Rattle.server_core.specs.RuleWarrants.{IsPassedOn, IsSoundAtServer, RuleIsWarranted, RuledOnlyIf}
pub use Rattle.server_core.specs.Rules.{IsPeer, ServerSeen, last_line, server_datagram_lines, server_destination_lines, server_packet_lines, server_seen}
unfoldable pub use Rattle.server_core.specs.Rules.{rule_of}
pub use Rattle.server_core.specs.Server.{by_payload, sends_one, step_of}
unfoldable pub use Rattle.server_core.specs.Server.{server_row}
pub use Rattle.server_core.specs.declared.reply.Answer.{Answer}
pub use Rattle.server_core.specs.declared.reply.Answer.TheVariants.{Drop}
pub use Rattle.server_core.specs.declared.rules.Rule.{Rule}
pub use Rattle.server_core.specs.declared.rules.Rule.TheVariants.{Advert, Dropped, Forward, ForwardOrigin, Six}
pub use Rattle.server_core.specs.declared.server.ServerSettings.{ServerSettings}
