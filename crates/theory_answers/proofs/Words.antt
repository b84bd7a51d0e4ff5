-- Where the words of this crate's proofs are defined: its files name them from here. `.ci/words` keeps this file.
pub use Rattle.std.proofs.Common.{Bool, Err, List, None, Ok, Option, Result, Some, [], ap, arith, cond, false, inl, inr, length, refl, subst, sym, true, ℕ, ◌*◌, ◌++◌, ◌+◌, ◌<◌, ◌==◌, ◌^◌, ◌||◌, ◌∙◌, ◌∷◌, ◌≡◌, ◌⊎◌}
pub use Rattle.std.proofs.lemmas.Bool.{false≢true, or_parts}
pub use Rattle.std.proofs.lemmas.Bool.Decides.{nat_tests}
pub use Rattle.std.proofs.lemmas.List.{length-append}
pub use Rattle.std.specs.List.{AllByRecursion, list_any}
pub use Rattle.std.specs.Prelude.{IfSome, filter_map, if◌then◌else◌, is_some, nat_le, nat_lt, not, replicate, slice_get, unwrap_or}
pub use Rattle.td_base.proofs.BytesLemmas.{each_byte}
pub use Rattle.td_base.specs.Ep.{IsEp, same_ep, same_ep-self, server_ep}
pub use Rattle.td_base.specs.Ip4.{IsIp4, same_ip, same_ip-self, same_ip-true}
pub use Rattle.td_base.specs.Ip6.{IsIp6, same_ip6-self}
unfoldable pub use Rattle.td_base.specs.Ip6.{same_ip6}
pub use Rattle.td_base.specs.Reach.{is_usable}
pub use Rattle.td_base.specs.Side.{other_side}
pub use Rattle.td_base.specs.declared.endpoint.Ep.{Ep}
pub use Rattle.td_base.specs.declared.ipv4.Ip4.{Ip4}
pub use Rattle.td_base.specs.declared.ipv6.Ip6.{Ip6}
pub use Rattle.td_base.specs.declared.side.Side.{Side}
pub use Rattle.td_base.specs.declared.side.Side.TheVariants.{Primary, Secondary as second}
pub use Rattle.ipv6_packet.specs.Packets.{Fields}
unfoldable pub use Rattle.ipv6_packet.specs.Reads.{is_big}
pub use Rattle.ipv6_packet.specs.declared.header.TheConstants.{HEADER, PACKET_MAX}
pub use Rattle.icmp6.specs.Message.{Message, router_solicit}
pub use Rattle.icmp6.specs.declared.numbers.TheConstants.{ADVERT_LEN, ROUTER_HOP}
pub use Rattle.icmp6.specs.declared.opt.Opt.{Opt}
pub use Rattle.teredo_addr.proofs.LawProofs.{flags_tell, link_local_tells, teredo_tells}
pub use Rattle.teredo_addr.specs.Teredo.{all_routers, flags_of, has_cone, is_teredo, teredo_ip, unspecified}
unfoldable pub use Rattle.teredo_addr.specs.Teredo.{link_local}
pub use Rattle.indications.specs.Leads.{origin_in}
unfoldable pub use Rattle.indications.specs.Leads.{is_confirmed, is_keyed}
pub use Rattle.bubble.proofs.LawProofs.{message_is_carried, payload_is_spelled, payload_reads_back}
pub use Rattle.bubble.specs.Laws.{CarriesMessage, ReadsPayload}
pub use Rattle.bubble.specs.Messages.{is_advert, message_in, message_packet}
pub use Rattle.bubble.specs.PacketsIn.{destination_in, source_in}
pub use Rattle.bubble.specs.Payloads.{Value, value_written}
pub use Rattle.bubble.specs.Reads.{value_in}
pub use Rattle.teredo_node.proofs.FirstLines.{skip}
pub use Rattle.teredo_node.specs.Journal.{Entry, Input, Journal, Words, arrived, from_six, given, is_changed, ticked, with_entry}
pub use Rattle.teredo_node.specs.MadeInputs.{IsMadeInput}
pub use Rattle.teredo_node.specs.Rows.{first_line}
pub use Rattle.teredo_node.specs.Sends.{send}
pub use Rattle.teredo_node.specs.Step.{Send, Step, just}
pub use Rattle.teredo_node.specs.Words.{nonce_from}
pub use Rattle.teredo_node.specs.declared.fate.Fate.{Fate}
pub use Rattle.server_core.proofs.LawProofs.{advert_reads_back}
pub use Rattle.server_core.specs.Conditions.{is_own, server_link_local}
unfoldable pub use Rattle.server_core.specs.Conditions.{is_for_server, is_other_kind, is_solicitation}
pub use Rattle.server_core.specs.Laws.{MayBeAnswered, ReadsAdvert, served_prefix}
pub use Rattle.server_core.specs.Outputs.{advert_bytes, advert_options, advert_packet}
pub use Rattle.server_core.specs.Rules.{IsPeer, ServerSeen, last_line, server_datagram_lines, server_destination_lines, server_packet_lines, server_seen}
unfoldable pub use Rattle.server_core.specs.Rules.{rule_of}
pub use Rattle.server_core.specs.Server.{answering_side, by_payload, sends_one, step_of}
unfoldable pub use Rattle.server_core.specs.Server.{server_row}
pub use Rattle.server_core.specs.declared.rules.Rule.{Rule}
pub use Rattle.server_core.specs.declared.rules.Rule.TheVariants.{Advert, Dropped}
pub use Rattle.server_core.specs.declared.server.ServerSettings.{ServerSettings}
pub use Rattle.peer_list.specs.Judged.{due_of, is_spent}
pub use Rattle.peer_list.specs.Waiting.{Listing}
pub use Rattle.qualify.proofs.LawProofs.{turns}
pub use Rattle.qualify.specs.Advertisements.{Heard, advert_lines, heard, is_one_of, is_own_prefix, is_same_origin, is_usable_origin, origin_before, phase_line, prefix_of}
unfoldable pub use Rattle.qualify.specs.Advertisements.{advert_row, prefixes_in}
pub use Rattle.qualify.specs.Laws.{tidings, turned}
pub use Rattle.qualify.specs.Qualification.{Qualification, address_told, qualification}
pub use Rattle.qualify.specs.Solicitations.{due_fate, expected_in, is_cone, is_due, is_qualified, server_asked, solicits_by}
unfoldable pub use Rattle.qualify.specs.Solicitations.{due_step, expected, own_address, solicitation}
pub use Rattle.qualify.specs.Turns.{begins, flags_word, origin_given, turn}
pub use Rattle.qualify.specs.declared.limits.TheConstants.{SOLICITATIONS_MAX}
pub use Rattle.qualify.specs.declared.phase.Phase.{Phase}
pub use Rattle.qualify.specs.declared.phase.Phase.TheVariants.{Cone, OffLine, Qualified, Restricted, Secondary, Symmetric}
pub use Rattle.qualify.specs.declared.settings.Settings.{Settings}
pub use Rattle.client_rules.proofs.LawProofs.{fate_of_reception, fate_of_transmission, reception_is_warranted, tick_is_warranted}
pub use Rattle.client_rules.proofs.MadeWaiting.{origin_made}
pub use Rattle.client_rules.specs.Journals.{client_entry, first_peer}
unfoldable pub use Rattle.client_rules.specs.Journals.{client_in, client_out, client_tick}
pub use Rattle.client_rules.specs.Reception.{Seen, reception_row}
unfoldable pub use Rattle.client_rules.specs.Reception.{is_from_server, reception, reception_fate, seen}
pub use Rattle.client_rules.specs.Sendings.{asks_as_cone}
pub use Rattle.client_rules.specs.Standing.{Standing, standing_of}
unfoldable pub use Rattle.client_rules.specs.Standing.{standing_at}
pub use Rattle.client_rules.specs.TickWarrants.{TickedOnlyIf}
pub use Rattle.client_rules.specs.Ticks.{asks, nothing, peer_due, tick, tries, tries_peer, try_fate}
unfoldable pub use Rattle.client_rules.specs.Ticks.{due_at}
pub use Rattle.client_rules.specs.Transmission.{Given, destination_lines, given as given_to, host_lines, transmission_row}
pub use Rattle.client_rules.specs.Warrants.{IsAdvert, ReceivedOnlyIf}
pub use Rattle.topology.proofs.LawProofs.{each_node}
pub use Rattle.topology.specs.Chains.{way_out}
pub use Rattle.topology.specs.Rules.{IsTopology}
pub use Rattle.topology.specs.Topology.{client_at, node_at, own_ep, side_at}
pub use Rattle.topology.specs.declared.client_node.ClientNode.{ClientNode}
pub use Rattle.topology.specs.declared.node.Node.{Node}
pub use Rattle.topology.specs.declared.node.Node.TheVariants.{Client as client, Server as server}
pub use Rattle.topology.specs.declared.server_node.ServerNode.{ServerNode}
pub use Rattle.history.specs.Full.{Full, Item, Made, item_in, items_of, sent, udp, wire}
pub use Rattle.history.specs.declared.act.Act.{Act}
pub use Rattle.history.specs.declared.mark.Loss.{Loss}
pub use Rattle.legal.proofs.ItemsMade.{wire_stays}
pub use Rattle.legal.proofs.LawProofs.{deliveries, is_reached as each_is_reached, is_shut_out, kinds, of_its_event, of_node}
pub use Rattle.legal.proofs.MadeInputs.{client_made}
pub use Rattle.legal.proofs.RouteEnds.{is_reached, node_in, number_in}
pub use Rattle.legal.specs.Actors.{IsActOf}
pub use Rattle.legal.specs.Deliveries.{Delivery, IsReached, done_with, missed_fate, to_nobody, to_node}
pub use Rattle.legal.specs.Emit.{by_way, closed, crossing_unless, is_at_place, made_outright, marked, or_loss, outright, reaches, route, sendings, six_made}
pub use Rattle.legal.specs.Honest.{are_honest_for}
pub use Rattle.legal.specs.Kinds.{Kind, asked_event, copied, handed, put, quiet, reached, ticks}
pub use Rattle.legal.specs.Lab.{Lab}
pub use Rattle.legal.specs.Legal.{Grown}
pub use Rattle.legal.specs.MadeWire.{HasMadeSource}
pub use Rattle.legal.specs.Next.{no_ep}
pub use Rattle.legal.specs.OfNode.{OfNode, rests}
pub use Rattle.legal.specs.Past.{armed, drawn, is_node, is_restart, journal, now, with_entries, words}
pub use Rattle.legal.specs.Routes.{IsLetIn, IsShutOut}
pub use Rattle.legal.specs.Settings.{client_settings, server_settings}
pub use Rattle.theory_settled.proofs.Earlier.{earlier}
pub use Rattle.theory_settled.proofs.LawProofs.{client_is_there}
pub use Rattle.theory_settled.specs.Clients.{standing}
pub use Rattle.theory_settled.specs.ItsNodes.{HasServer}
pub use Rattle.theory_origins.proofs.HonestFor.{two_addresses}
pub use Rattle.theory_origins.proofs.SentOn.{act_made}
pub use Rattle.theory_verdicts.proofs.Entries.{address_next, phase_next}
pub use Rattle.theory_verdicts.proofs.Journals.{client_does}
pub use Rattle.theory_verdicts.proofs.Phases.{address_then}
pub use Rattle.theory_verdicts.specs.Stays.{AddressStays}
pub use Rattle.theory_verdicts.specs.Undisturbed.{starts}
pub use Rattle.theory_ways.proofs.LawProofs.{addresses_stay_along, replies_are_let_in, verdicts_are_right_along}
pub use Rattle.theory_ways.proofs.phases.Histories.{honest_before, kept_open_before, not_started, undisturbed_before}
pub use Rattle.theory_ways.specs.Replies.{IsShutAlong, LetsReplyIn}
pub use Rattle.theory_ways.specs.RightAlong.{IsRightAlong}
pub use Rattle.theory_ways.specs.SettledAlong.{IsSettledAlong}
pub use Rattle.theory_ways.specs.UndisturbedAlong.{IsKeptOpenAlong, IsUndisturbedAlong}
pub use Rattle.theory_ways.specs.Ways.{IsChained, has_symmetric, is_all_cone}
pub use Rattle.theory_answers.specs.Answered.{EachSolicitationIsAnswered}
pub use Rattle.theory_answers.specs.Asks.{EachQuestionIsOpen, IsOpenQuestion, is_question, question_in}
pub use Rattle.theory_answers.specs.AtOnce.{EachAnswerAtOnceTells, IsAnsweredNext, question}
pub use Rattle.theory_answers.specs.Heard.{EachHeardAnswerTells, HearsAnswer}
pub use Rattle.theory_answers.specs.Questions.{DrawsWords, EachQuestionTells, IsAnsweredAtOnce, comes_of}
pub use Rattle.theory_answers.specs.Taken.{EachAnswerIsTaken, IsAnswerTo}
pub use Rattle.theory_answers.specs.Tells.{AnswerTells, EachAnswerTells, TellsOfWay, answer_in, is_answer}
pub use Rattle.theory_answers.specs.Throughout.{HistoriesTellAtOnce}
