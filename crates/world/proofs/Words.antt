-- Where the words of this crate's proofs are defined: its files name them from here. `.ci/words` keeps this file.
pub use Rattle.std.proofs.Common.{Bool, Err, List, None, Ok, Option, Result, Some, [], ap, append-nil, append_assoc, arith, cond, drop, false, get_or, if◌then◌else◌, inl, inr, length, map, max, min, refl, replicate, rules, set, subst, suc, sym, take, true, zero, ℕ, ◌++◌, ◌+◌, ◌-◌, ◌<◌, ◌==◌, ◌∙◌, ◌∷◌, ◌≡◌, ◌≢◌, ◌≤◌, ◌⊎◌}
pub use Rattle.std.proofs.Math.Seq.{drop-append_seam, take-append_seam, take-length}
pub use Rattle.std.proofs.lemmas.Bool.{false≢true, not-false}
pub use Rattle.std.proofs.lemmas.Bool.Decides.{eqb_tells, nat_tests}
pub use Rattle.std.proofs.lemmas.Grind.{get_or-set_at}
pub use Rattle.std.proofs.lemmas.List.{drop-append-le, get_or-set_other, get_or-take, length-append, length-drop, length-map, length-take-le, map-append, replicate-append-replicate, take-append-drop, take-append-le, take-map, take_more}
pub use Rattle.std.proofs.lemmas.List.Sums.{sum_by-cons}
pub use Rattle.std.proofs.lemmas.Option.{IfSome_then, get_or_from_slice_get, same_Some, slice_get-map, slice_get_within}
pub use Rattle.std.proofs.lemmas.Result.{err_from_is_err_and}
pub use Rattle.std.specs.List.{AllByRecursion}
pub use Rattle.std.specs.Option.{option_or}
pub use Rattle.std.specs.Prelude.{IfOk, OnOk, filter, filter_map, is_some, nat_le, nat_lt, option_and_then, option_map, option_to_list, slice_get, sum, sum_by, ◌||◌}
pub use Rattle.td_base.proofs.ResultLaws.{on_err_always}
pub use Rattle.td_base.specs.Ep.{same_ep-true}
pub use Rattle.td_base.specs.Ip4.{same_ip, same_ip-true}
pub use Rattle.td_base.specs.Ip6.{same_ip6}
pub use Rattle.td_base.specs.declared.endpoint.Ep.{Ep}
pub use Rattle.td_base.specs.declared.ipv6.Ip6.{Ip6}
pub use Rattle.td_base.specs.declared.side.Side.{Side}
pub use Rattle.td_base.specs.declared.span.Span.{Span}
pub use Rattle.ipv6_packet.specs.Packets.{Fields, packet_bytes}
pub use Rattle.ipv6_packet.specs.Reads.{fields_in}
pub use Rattle.teredo_node.specs.Journal.{Journal, given, ticked, with_entry}
pub use Rattle.teredo_node.specs.Sends.{has_any}
pub use Rattle.teredo_node.specs.Step.{Send, Step, part}
pub use Rattle.teredo_node.specs.declared.fate.Fate.{Fate}
pub use Rattle.client_core.specs.Client.{ClientStandsFor}
pub use Rattle.relay_core.specs.Relay.{RelayStandsFor}
pub use Rattle.nat_kinds.specs.Answer.{nat_answer}
pub use Rattle.nat_kinds.specs.History.{Forget, NatEntry, Restart}
pub use Rattle.nat_kinds.specs.Nat.{NatStandsFor, NatState}
pub use Rattle.nat_kinds.specs.declared.refusal.NatRefusal.{NatRefusal}
pub use Rattle.nat_kinds.specs.declared.refusal.NatRefusal.TheVariants.{Hairpin}
pub use Rattle.nat_kinds.specs.declared.settings.NatSettings.{NatSettings}
pub use Rattle.topology.proofs.Lists.{all_joined}
pub use Rattle.topology.specs.Chains.{Behind, Crossing, NatPasts, Passing, after_passing, answered, chain_in, comes_to, crossing, is_inner, nat_set_up, outs_at, passing, way_out}
pub use Rattle.topology.specs.Named.{has_host, is_nat}
pub use Rattle.topology.specs.Rows.{TopologyState}
pub use Rattle.topology.specs.Rules.{IsTopology}
pub use Rattle.topology.specs.Topology.{as_client, as_nat, client_at, nat_settings, node_at, nodes}
pub use Rattle.topology.specs.declared.client_node.ClientNode.{ClientNode}
pub use Rattle.topology.specs.declared.nat_node.NatNode.{NatNode}
pub use Rattle.topology.specs.declared.node.Node.{Node}
pub use Rattle.topology.specs.declared.node.Node.TheVariants.{Client as client, Nat as nat, Native as native, Relay as relay, Server as server}
pub use Rattle.td_chain.specs.Chains.{AreNatsOf, ChainsStandFor, ChainsState, CrossesChain, LacksMemory, NatsStand, inward_of, set_ups, with_nat_entry}
pub use Rattle.td_chain.specs.declared.way.Way.{Way}
pub use Rattle.events.specs.Events.{IsEvent, IsForgotten}
pub use Rattle.events.specs.declared.event.Event.{Event}
pub use Rattle.events.specs.declared.event.TheConstants.{ADVANCE_MAX_MS, ENTRY_NUMBER_MAX}
pub use Rattle.events.specs.declared.verb.Verb.{Verb}
pub use Rattle.history.specs.Full.{Item, Made, bytes_of, item_in, items_of, lost, sent, six, udp, wire}
pub use Rattle.history.specs.Records.{mark_of, marks_of, record_of}
pub use Rattle.history.specs.declared.act.Act.{Act}
pub use Rattle.history.specs.declared.mark.Loss.{Loss}
pub use Rattle.history.specs.declared.mark.Mark.{Mark}
pub use Rattle.history.specs.declared.records.Record.{Record}
pub use Rattle.history.specs.declared.turn.Stop.{Stop}
pub use Rattle.history.specs.declared.turn.Stop.TheVariants.{NoMemory}
pub use Rattle.history.specs.declared.turn.Turn.{Turn}
pub use Rattle.history.specs.declared.turn.Turn.TheVariants.{Last, More}
pub use Rattle.legal.proofs.Delivered.{journal_still}
pub use Rattle.legal.proofs.LawProofs.{frame as legal_frame, is_reached, is_shut_out, of_its_event, told as legal_told}
pub use Rattle.legal.specs.Emit.{Route, Sendings, astray, by_way, closed, crossing_unless, from_outside, is_at_place, made_outright, marked, or_loss, outright, reach, reach_node, reaches, route, route_in, sendings, tick_due}
pub use Rattle.legal.specs.Lab.{Draws, Lab, lab_on}
pub use Rattle.legal.specs.Laws.{may_go_on}
pub use Rattle.legal.specs.Left.{time_left}
pub use Rattle.legal.specs.Legal.{Follows, GoesOn, Grown}
pub use Rattle.legal.specs.Next.{DueNode, DueNode as Tick, Numbered, acts, address_at, advance_with, advanced, blank, copies, data_packet, delivers, delivers_item, delivers_or, delivers_to, earlier, echo_packet, hands_in, least_due, next_of, no_ep, numbered, plain, puts, target_address}
pub use Rattle.legal.specs.Past.{armed, armed_after, arms, at_nat, began, drawn, first_open, first_undelivered, forgotten, going, has_more, is_node, is_number, is_restart, journal, nat_history, nat_pasts, new_journal, now, was_delivered, words}
pub use Rattle.legal.specs.Routes.{EntersBy}
pub use Rattle.legal.specs.declared.left.TheConstants.{LEFT_MAX}
pub use Rattle.weights.specs.Left.{left, left_of_event}
pub use Rattle.weights.specs.Weights.{entry_weight}
pub use Rattle.theory_storms.proofs.LawProofs.{falls as storms_falls}
pub use Rattle.lab_nodes.proofs.LawProofs.{due_as_in_the_past, rows_keep_rules, waits_as_in_the_past}
pub use Rattle.lab_nodes.specs.Answers.{AnswersCall, AnswersFor, MayTakeMemory, Wants}
pub use Rattle.lab_nodes.specs.Call.{dst_lent, entry_in, input_lent}
pub use Rattle.lab_nodes.specs.Changes.{ChangesAt, PlayedAsBefore, Restarts, restarted, with_call}
pub use Rattle.lab_nodes.specs.Due.{NoneIsDue, due_as}
pub use Rattle.lab_nodes.specs.DueMoments.{all_played_due}
pub use Rattle.lab_nodes.specs.Outlet.{outlet_of, sendings_but, six_sent, source_at}
pub use Rattle.lab_nodes.specs.PlayedNode.{AreOf, AreReady, IsKept, NodePast, NodesOf, past_of, row_of}
pub use Rattle.lab_nodes.specs.Waits.{played_waits}
pub use Rattle.lab_nodes.specs.declared.asked.Asked.{Asked}
pub use Rattle.lab_nodes.specs.declared.call.Call.{Call}
pub use Rattle.lab_nodes.specs.declared.due.Due.{Due}
pub use Rattle.lab_nodes.specs.declared.outlet.Outlet.{Outlet}
pub use Rattle.lab_nodes.specs.declared.played_node.PlayedNode.{PlayedNode}
pub use Rattle.world.specs.Egress.{source_or_loss}
pub use Rattle.world.specs.Emission.{AreNatsAmid, AreNatsWith, Crossed, HasItsNat, emitted_by}
pub use Rattle.world.specs.Entries.{IsInside, item_at, kept_entry}
pub use Rattle.world.specs.Halted.{Halted, Stops, unacted, unplaced}
pub use Rattle.world.specs.Lookup.{lab_by}
pub use Rattle.world.specs.Playing.{Comes, Finds, GoesFrom, IsFound, IsGoing, IsWorld, Plays, PlaysTurn, Turned, played, prompted, ticks_at, turn_from}
pub use Rattle.world.specs.Prompt.{IsPrompt, delivered_by, done_by, dst_at, dst_by, input_at, input_by}
pub use Rattle.world.specs.Record.{fresh_record, with_deed}
pub use Rattle.world.specs.Route.{IsThere, by_route}
pub use Rattle.world.specs.Wire.{ComesOnto, Extends, IsShortEntry, IsWire, Puts, WireState, entries_in, front_of, with_items}
pub use Rattle.world.specs.WireEntry.{item_lent}
pub use Rattle.world.specs.World.{Falls, IsAgain, IsCause, NeedsMemory, StandsFor, Steps, WorldState, began_in, event_in, going_after, is_more, lab_in, left_in, left_of, not_done_from, state_of}
pub use Rattle.world.specs.declared.entries.Entry.TheVariants.{Six, Udp}
pub use Rattle.world.specs.declared.going.Going.{Going}
pub use Rattle.world.specs.declared.prompt.Prompt.{Prompt}
pub use Rattle.world.specs.declared.sender.Sender.{Sender}
pub use Rattle.world.specs.declared.wire.TheConstants.{ENTRIES_MAX}
