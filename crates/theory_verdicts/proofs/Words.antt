-- Where the words of this crate's proofs are defined: its files name them from here. `.ci/words` keeps this file.
pub use Rattle.std.proofs.Common.{Bool, Err, List, None, Ok, Option, Result, Some, [], ap, arith, cond, false, find, inl, inr, not, refl, subst, suc, sym, true, zero, ℕ, ◌&&◌, ◌++◌, ◌+◌, ◌-◌, ◌<◌, ◌==◌, ◌||◌, ◌∙◌, ◌∷◌, ◌≡◌, ◌≢◌, ◌≤◌, ◌⊎◌}
pub use Rattle.std.proofs.Math.Nat.{le_refl}
pub use Rattle.std.proofs.lemmas.Bool.{and_from, and_parts, eq-eqb, false≢true, or_left, or_parts, or_right}
pub use Rattle.std.proofs.lemmas.Bool.Decides.{nat_tests}
pub use Rattle.std.specs.List.{AllByRecursion, list_any}
pub use Rattle.std.specs.Prelude.{Contains, IfSome, filter, is_some, nat_lt, option_map, option_to_list, slice_get, unwrap_or}
pub use Rattle.td_base.specs.Ep.{IsEp, same_ep-self, same_ep-true, server_ep}
unfoldable pub use Rattle.td_base.specs.Ep.{same_ep}
pub use Rattle.td_base.specs.Ip4.{IsIp4}
pub use Rattle.td_base.specs.declared.endpoint.Ep.{Ep}
pub use Rattle.td_base.specs.declared.ipv4.Ip4.{Ip4}
pub use Rattle.td_base.specs.declared.ipv6.Ip6.{Ip6}
pub use Rattle.teredo_addr.proofs.LawProofs.{flags_tell, teredo_tells}
pub use Rattle.teredo_addr.specs.Teredo.{embedded, flags_of, has_cone, teredo_ip}
pub use Rattle.indications.specs.Leads.{origin_in}
pub use Rattle.bubble.proofs.MadeInputs.{origin_is}
pub use Rattle.bubble.specs.PacketsIn.{destination_in, source_in}
pub use Rattle.bubble.specs.Payloads.{Value}
pub use Rattle.bubble.specs.Reads.{value_in}
pub use Rattle.teredo_node.proofs.FirstLines.{skip}
pub use Rattle.teredo_node.specs.Journal.{Entry, Input, Journal, Words, arrived, from_six, given, is_changed as is_change, ticked, with_entry}
pub use Rattle.teredo_node.specs.MadeInputs.{IsMadeInput}
pub use Rattle.teredo_node.specs.Step.{Send}
pub use Rattle.teredo_node.specs.declared.fate.Fate.{Fate}
pub use Rattle.peer_list.specs.Waiting.{Listing}
pub use Rattle.qualify.specs.Advertisements.{Heard, heard, is_same_origin, origin_before, phase_line}
pub use Rattle.qualify.specs.Qualification.{Qualification, address_after, address_in, address_told, in_phase, kept_after, kept_origin, phase_of}
unfoldable pub use Rattle.qualify.specs.Qualification.{first_phase, qualification}
pub use Rattle.qualify.specs.Solicitations.{expected_in, is_cone, is_qualified, server_asked}
unfoldable pub use Rattle.qualify.specs.Solicitations.{expected}
pub use Rattle.qualify.specs.Turns.{Turn, asks_cone, asks_restricted, asks_secondary, begins, differs, ends, flags_word, is_answered, is_same, leaves, origin_given, qualifies, refreshes, renews, says_nothing, turn, turn_of}
pub use Rattle.qualify.specs.declared.phase.Phase.{Phase}
pub use Rattle.qualify.specs.declared.phase.Phase.TheVariants.{Cone, OffLine, Qualified, Restricted, Secondary, Symmetric}
pub use Rattle.qualify.specs.declared.settings.Settings.{Settings}
pub use Rattle.client_rules.proofs.LawProofs.{each_send, fate_of_reception, fate_of_transmission, qualified_has_address, reception_is_warranted, tick_is_warranted}
pub use Rattle.client_rules.proofs.Told.{has_auth}
pub use Rattle.client_rules.specs.Journals.{IsJournal, client_entry, first_peer}
unfoldable pub use Rattle.client_rules.specs.Journals.{client_in, client_out, client_tick}
pub use Rattle.client_rules.specs.Reception.{Seen, reception_fate, reception_step, seen}
unfoldable pub use Rattle.client_rules.specs.Reception.{reception}
pub use Rattle.client_rules.specs.Sendings.{IsBubbleTo, IsCarriedTo, IsSending, bubbles, carries, solicits, tests}
pub use Rattle.client_rules.specs.Standing.{Standing, standing_of}
unfoldable pub use Rattle.client_rules.specs.Standing.{standing_at}
pub use Rattle.client_rules.specs.TickWarrants.{TickedOnlyIf}
pub use Rattle.client_rules.specs.Ticks.{due_at, tick}
pub use Rattle.client_rules.specs.Transmission.{Given, destination_lines, given as given_to, host_lines, transmission_row}
pub use Rattle.client_rules.specs.Warrants.{IsAdvert, ReceivedOnlyIf}
pub use Rattle.nat_kinds.proofs.LawProofs.{counting_datagram_holds_its_port, let_in_where_asked, port_has_one_key, reply_is_let_in}
pub use Rattle.nat_kinds.proofs.ListLemmas.{all_any, find_alike}
pub use Rattle.nat_kinds.proofs.OrderLemmas.{young_before}
pub use Rattle.nat_kinds.specs.Answer.{live_after, nat_answer}
pub use Rattle.nat_kinds.specs.Entering.{lets_in}
pub use Rattle.nat_kinds.specs.History.{Forget, NatEntry, Out, Restart, counting, is_young, kept}
pub use Rattle.nat_kinds.specs.Kinds.{is_cone_kind, is_symmetric}
pub use Rattle.nat_kinds.specs.Laws.{Asked, IsHistory, IsPast, SameKey, WasAsked, latest_moment}
pub use Rattle.nat_kinds.specs.Mappings.{has_key, live_port, port_in}
pub use Rattle.nat_kinds.specs.declared.kind.NatKind.{NatKind}
pub use Rattle.nat_kinds.specs.declared.outgoing.Outward.{Outward}
pub use Rattle.nat_kinds.specs.declared.refusal.NatRefusal.{NatRefusal}
pub use Rattle.nat_kinds.specs.declared.settings.NatSettings.{NatSettings}
pub use Rattle.topology.proofs.Lists.{all_at}
pub use Rattle.topology.specs.Chains.{Behind, Passing, after_passing, answered, chain_in, comes_to, crossing, goes_in, is_inner, let_in, nat_set_up, outs_at, passing, way_out}
pub use Rattle.topology.specs.Rows.{TopologyState}
pub use Rattle.topology.specs.Rules.{IsTopology}
pub use Rattle.topology.specs.Topology.{client_at, node_at}
pub use Rattle.topology.specs.declared.client_node.ClientNode.{ClientNode}
pub use Rattle.topology.specs.declared.node.Node.TheVariants.{Client as client}
pub use Rattle.events.specs.declared.event.Event.{Event}
pub use Rattle.history.specs.Full.{Full, Item, six, udp, wire}
pub use Rattle.legal.proofs.Framed.{is_node-true}
pub use Rattle.legal.proofs.LawProofs.{client_journals, frame, grown as history_is_grown, is_reached as each_is_reached, later as each_is_later, nat_grows, of_node, routes}
pub use Rattle.legal.proofs.MadeInputs.{client_made, entry_input}
pub use Rattle.legal.proofs.NatPasts.{set_up_past}
pub use Rattle.legal.proofs.RouteEnds.{comes, inside_in, nat_in, number_in}
pub use Rattle.legal.specs.Actors.{IsActOf, IsGiven, delivered, hosted, ticks}
pub use Rattle.legal.specs.Emit.{by_way, crossing_unless, entry_of, is_at_place}
pub use Rattle.legal.specs.Honest.{are_honest_for, is_honest_event_for}
pub use Rattle.legal.specs.Lab.{Lab, lab_of}
pub use Rattle.legal.specs.Legal.{Grown}
pub use Rattle.legal.specs.NatGrowth.{ComesBy, IsOutOf, NatGrows, forgets, lets_out, restarts, stays}
pub use Rattle.legal.specs.Next.{input_of}
pub use Rattle.legal.specs.OfNode.{OfNode, acts, rests}
pub use Rattle.legal.specs.Past.{armed, at_nat, forgotten, is_node, is_restart, journal, nat_entries, nat_pasts, new_journal, now, with_entries, words}
pub use Rattle.legal.specs.Routes.{IsLetIn, Reaches}
pub use Rattle.legal.specs.Settings.{client_settings}
pub use Rattle.theory_settled.proofs.Earlier.{earlier}
pub use Rattle.theory_settled.proofs.ItsNodes.{address_there}
pub use Rattle.theory_settled.proofs.LawProofs.{client_is_there}
pub use Rattle.theory_settled.specs.Clients.{asks_at, client_address, nat_behind, past_of_nat, standing}
pub use Rattle.theory_settled.specs.ItsNodes.{HasServer}
pub use Rattle.theory_settled.specs.Settled.{IsSettled}
pub use Rattle.theory_origins.proofs.HonestFor.{from_its, two_addresses}
pub use Rattle.theory_origins.proofs.Inputs.{bytes_of, from_of, is_arrived}
pub use Rattle.theory_origins.proofs.LawProofs.{tells_where_to}
pub use Rattle.theory_origins.proofs.SentOn.{act_made}
pub use Rattle.theory_origins.specs.Senders.{EntryTellsWhereTo}
pub use Rattle.theory_verdicts.specs.Right.{EachIsRight, EachIsRightWithoutCone, EachVerdictIsRight, IsRight, IsRightWithoutCone}
pub use Rattle.theory_verdicts.specs.Stays.{AddressStays, EachAddressStays}
pub use Rattle.theory_verdicts.specs.Throughout.{HistoriesHaveRightVerdicts, ScenariosHaveRightVerdicts}
pub use Rattle.theory_verdicts.specs.Undisturbed.{answers, began_seen, has_sent, is_first_answer, is_loss_of, is_open_at, is_out_of, is_out_to, is_seen, is_young_out, starts, was_answered, was_lost, was_shut}
