-- Where the words of this crate's proofs are defined: its files name them from here. `.ci/words` keeps this file.
pub use Rattle.std.proofs.Common.{Bool, Err, List, None, Ok, Option, Result, Some, [], ap, arith, cond, false, find, inl, inr, length, refl, subst, suc, sym, true, ℕ, ◌&&◌, ◌++◌, ◌+◌, ◌-◌, ◌<◌, ◌==◌, ◌||◌, ◌∙◌, ◌∷◌, ◌≡◌, ◌≢◌, ◌≤◌, ◌⊎◌}
pub use Rattle.std.proofs.lemmas.Bool.{and_from, and_parts, false≢true, not-true, or_from, or_left, or_parts, or_right}
pub use Rattle.std.proofs.lemmas.Bool.Decides.{nat_tests}
pub use Rattle.std.proofs.lemmas.Option.{same_Some}
pub use Rattle.std.specs.List.{AllByRecursion, list_all, list_any}
pub use Rattle.std.specs.Prelude.{Contains, IfSome, is_some, nat_le, nat_lt, not, option_and_then, option_map, option_to_list, slice_get, unwrap_or}
pub use Rattle.td_base.specs.Ep.{IsEp, same_ep, same_ep-self, same_ep-true, server_ep}
pub use Rattle.td_base.specs.Ip4.{IsIp4, same_ip, same_ip-self, same_ip-true}
pub use Rattle.td_base.specs.Options.{◌>>=◌}
pub use Rattle.td_base.specs.declared.endpoint.Ep.{Ep}
pub use Rattle.td_base.specs.declared.ipv4.Ip4.{Ip4}
pub use Rattle.td_base.specs.declared.ipv6.Ip6.{Ip6}
pub use Rattle.teredo_addr.proofs.LawProofs.{flags_tell, teredo_tells}
pub use Rattle.teredo_addr.specs.Teredo.{embedded, flags_of, has_cone, teredo_ip}
pub use Rattle.indications.specs.Leads.{origin_in}
pub use Rattle.bubble.proofs.LawProofs.{payload_is_spelled}
pub use Rattle.bubble.proofs.MadeInputs.{origin_is}
pub use Rattle.bubble.specs.Reads.{value_in}
pub use Rattle.teredo_node.specs.Journal.{Entry, Input, Journal, with_entry}
pub use Rattle.teredo_node.specs.MadeInputs.{IsMadeInput}
pub use Rattle.teredo_node.specs.Step.{Send}
pub use Rattle.teredo_node.specs.declared.fate.Fate.{Fate}
pub use Rattle.qualify.specs.Advertisements.{is_same_origin, origin_before, phase_line}
pub use Rattle.qualify.specs.Qualification.{Qualification, address_told, first_phase, qualification}
pub use Rattle.qualify.specs.Solicitations.{expected_in, is_cone, is_qualified, server_asked}
unfoldable pub use Rattle.qualify.specs.Solicitations.{expected}
pub use Rattle.qualify.specs.Turns.{Turn, asks_cone, asks_restricted, asks_secondary, begins, differs, ends, flags_word, is_answered, is_same, origin_given, qualifies, refreshes, renews, says_nothing, turn, turn_of}
pub use Rattle.qualify.specs.declared.phase.Phase.{Phase}
pub use Rattle.qualify.specs.declared.phase.Phase.TheVariants.{Cone, OffLine, Qualified, Restricted, Secondary, Symmetric}
pub use Rattle.qualify.specs.declared.settings.Settings.{Settings}
pub use Rattle.client_rules.proofs.LawProofs.{each_send, qualified_has_address}
pub use Rattle.client_rules.specs.Journals.{IsJournal, client_entry}
pub use Rattle.client_rules.specs.Sendings.{IsBubbleTo, IsCarriedTo, IsSending, bubbles, carries, solicits, tests}
pub use Rattle.nat_kinds.proofs.LawProofs.{counting_datagram_holds_its_port, let_in_where_asked, port_has_one_key}
pub use Rattle.nat_kinds.proofs.OrderLemmas.{young_before}
pub use Rattle.nat_kinds.specs.Answer.{live_after, nat_answer}
pub use Rattle.nat_kinds.specs.Entering.{admits, inside_if, lets_in}
pub use Rattle.nat_kinds.specs.History.{Forget, NatEntry, Out, Restart, counting, is_young, kept}
pub use Rattle.nat_kinds.specs.Kinds.{is_cone_kind, is_symmetric}
pub use Rattle.nat_kinds.specs.Laws.{IsPast, SameKey, WasAsked}
pub use Rattle.nat_kinds.specs.Mappings.{latest, live_port}
pub use Rattle.nat_kinds.specs.declared.kind.NatKind.{NatKind}
pub use Rattle.nat_kinds.specs.declared.outgoing.Outward.{Outward}
pub use Rattle.nat_kinds.specs.declared.refusal.NatRefusal.{NatRefusal}
pub use Rattle.nat_kinds.specs.declared.settings.NatSettings.{NatSettings}
pub use Rattle.topology.proofs.LawProofs.{apart as addresses_are_apart, each_node}
pub use Rattle.topology.proofs.Lists.{all_at, all_joined, all_mapped}
pub use Rattle.topology.specs.Chains.{Behind, Crossing, Inward, Passing, after_passing, answered, chain_in, comes_to, crossing, goes_in, has_external, inner_at, is_inner, last_nat, let_in, nat_set_up, nats_from, outer_in, outs_at, passing, shut_at, way_out}
pub use Rattle.topology.specs.Named.{is_client_of, is_nat}
pub use Rattle.topology.specs.NodeRules.{IsNatNode, has_address}
pub use Rattle.topology.specs.Rows.{TopologyState}
pub use Rattle.topology.specs.Rules.{IsTopology}
pub use Rattle.topology.specs.Topology.{as_client, as_nat, client_at, nat_at, node_at, nodes, settings_of_nat}
pub use Rattle.topology.specs.declared.client_node.ClientNode.{ClientNode}
pub use Rattle.topology.specs.declared.nat_node.NatNode.{NatNode}
pub use Rattle.topology.specs.declared.node.Node.{Node}
pub use Rattle.topology.specs.declared.node.Node.TheVariants.{Client as client, Nat as nat, Native as native, Relay as relay, Server as server}
pub use Rattle.td_chain.proofs.ThereLemmas.{alone_is_chain}
pub use Rattle.td_chain.specs.ChainRules.{each_once, is_apart, is_link}
unfoldable pub use Rattle.td_chain.specs.ChainRules.{is_chain}
pub use Rattle.td_chain.specs.ChainText.{chain_named, if_chain}
pub use Rattle.td_chain.specs.declared.rules.TheConstants.{WAY_MAX}
pub use Rattle.events.specs.Events.{IsEvent, IsForgotten}
pub use Rattle.events.specs.declared.event.Event.{Event}
pub use Rattle.history.specs.Full.{Full, Item, Made, sent, six, udp, wire}
pub use Rattle.legal.proofs.LawProofs.{acted, client_journals, frame, is_reached as each_is_reached, later as each_is_later, nat_grows, of_node, routes}
pub use Rattle.legal.proofs.MadeInputs.{client_made, entry_input}
pub use Rattle.legal.proofs.NatPasts.{set_up_past}
pub use Rattle.legal.proofs.RouteEnds.{comes, inside_in, nat_in, number_in}
pub use Rattle.legal.specs.Actors.{Acted, IsActOf, IsGiven, delivered, does, hosted, idles, ticks}
pub use Rattle.legal.specs.Emit.{by_way, crossing_unless, is_at_place, marked, or_loss}
pub use Rattle.legal.specs.Honest.{are_honest_for, is_honest_event_for}
pub use Rattle.legal.specs.Lab.{Lab}
pub use Rattle.legal.specs.Legal.{Grown}
pub use Rattle.legal.specs.NatGrowth.{IsOutOf, NatGrows, forgets, lets_out, restarts, stays}
pub use Rattle.legal.specs.Next.{input_of}
pub use Rattle.legal.specs.OfNode.{OfNode, acts, rests}
pub use Rattle.legal.specs.Past.{armed, at_nat, forgotten, is_node, is_restart, journal, nat_entries, nat_history, nat_pasts, new_journal, now, words}
pub use Rattle.legal.specs.Routes.{EntersBy, IsLetIn, Reaches}
pub use Rattle.legal.specs.Settings.{client_settings}
pub use Rattle.theory_settled.proofs.Earlier.{earlier}
pub use Rattle.theory_settled.proofs.ItsNodes.{address_there}
pub use Rattle.theory_settled.proofs.LawProofs.{client_is_there}
pub use Rattle.theory_settled.specs.Clients.{asks_at, nat_behind, past_of_nat, standing}
pub use Rattle.theory_settled.specs.ItsNodes.{HasServer}
pub use Rattle.theory_origins.proofs.HonestFor.{from_its, two_addresses}
pub use Rattle.theory_origins.proofs.Inputs.{bytes_of, from_of, is_arrived}
pub use Rattle.theory_origins.proofs.LawProofs.{goes_elsewhere, is_brought, tells_where_to}
pub use Rattle.theory_origins.proofs.SentOn.{act_made}
pub use Rattle.theory_origins.specs.Senders.{EntryTellsWhereTo}
pub use Rattle.theory_origins.specs.Sources.{GoesElsewhere, outermost}
pub use Rattle.theory_verdicts.proofs.Adverts.{IsAdvertised, advertised, is_told}
pub use Rattle.theory_verdicts.proofs.Entries.{IsFirst, address_next, first_cone, first_is_early, first_restricted, first_rests, is_first, kept_next, phase_next}
pub use Rattle.theory_verdicts.proofs.Journals.{client_does, fresh_journal, idle_journal, starts_in, stays_at_start}
pub use Rattle.theory_verdicts.proofs.Kept.{counted, counts_kept, counts_of, open_of, out_or, stays_kept, younger_too}
pub use Rattle.theory_verdicts.proofs.Members.{Has, all_has, contains_of, has_of, none_has}
pub use Rattle.theory_verdicts.proofs.NatPorts.{asked_same, asks_it, cone_is_plain, key_inside, key_to, only_cone, plain_port, port_or}
pub use Rattle.theory_verdicts.proofs.Outs.{act_out, none_forgotten, one_entry}
pub use Rattle.theory_verdicts.proofs.Phases.{Rests, address_then, answered_now, is_early, is_resting, kept_then, not_resting, qualified_rests, rested, rests_late, still_address, still_begins, still_early, still_kept, told_qualifies, told_rests, untold_rests, untold_same}
pub use Rattle.theory_verdicts.specs.Stays.{AddressStays}
pub use Rattle.theory_verdicts.specs.Undisturbed.{answers, began_seen, has_sent, is_loss_of, is_out_of, is_seen, is_young_out, starts, was_answered, was_lost}
pub use Rattle.theory_ways.specs.Addresses.{AddressesDiffer, EachAddressStaysAlong}
pub use Rattle.theory_ways.specs.Inwards.{EachEntersByItsWay, EachIsLetIn, EntersPast}
pub use Rattle.theory_ways.specs.Neighbours.{NeighboursAreUnheard, NeighboursUnheardLast}
pub use Rattle.theory_ways.specs.Replies.{EachReplyIsLetIn, IsShutAlong, LetsReplyIn, SendsAndWaits}
pub use Rattle.theory_ways.specs.RightAlong.{EachIsRightAlong, EachIsRightAlongWithoutCone, EachVerdictIsRightAlong, IsRightAlong}
pub use Rattle.theory_ways.specs.SettledAlong.{EachIsSettledBehindOne, EachSettledIsAlong, IsSettledAlong}
pub use Rattle.theory_ways.specs.Throughout.{HistoriesHoldAlongWays}
pub use Rattle.theory_ways.specs.UndisturbedAlong.{IsKeptAlong, IsKeptOpenAlong, IsUndisturbedAlong, first_from, has_passed, is_open_along, is_open_through, knows_endpoint, let_out_of, passed_known, was_restarted, was_shut_along, went_to}
pub use Rattle.theory_ways.specs.Ways.{AskedIsChained, FlatIsChained, IsChained, has_symmetric, is_all_cone, nat_of, nats_of, outer_nats_of}
