-- Where the words of this crate's proofs are defined: its files name them from here. `.ci/words` keeps this file.
pub use Rattle.std.proofs.Common.{Bool, List, None, Option, Some, [], ap, arith, cond, drop, false, inl, inr, length, lit<, lit≤, map, not, refl, subst, suc, sym, take, take-append-drop, true, zero, ℕ, ◌&&◌, ◌++◌, ◌+◌, ◌-◌, ◌<◌, ◌==◌, ◌||◌, ◌∙◌, ◌∷◌, ◌≡◌, ◌≤◌, ◌⊎◌}
pub use Rattle.std.proofs.lemmas.Bool.{and_parts, false≢true}
pub use Rattle.std.proofs.lemmas.Bool.Decides.{nat_tests}
unfoldable pub use Rattle.std.specs.Fmt.{digits}
pub use Rattle.std.specs.List.{list_any}
unfoldable pub use Rattle.std.specs.Net.Text.{hex, hex_groups_text}
pub use Rattle.std.specs.Prelude.{Contains, codes, decimal, filter_map, flat_map, if◌then◌else◌, is_some, nat_le, option_map, replicate, slice_get, sum_by, unwrap_or, ◌*◌, ◌^◌}
pub use Rattle.td_base.specs.Ip4.{same_ip-self}
unfoldable pub use Rattle.td_base.specs.Ip4.{same_ip}
pub use Rattle.td_base.specs.declared.endpoint.Ep.{Ep}
pub use Rattle.td_base.specs.declared.ipv6.Ip6.{Ip6}
pub use Rattle.td_base.specs.declared.reach.Policy.TheVariants.{Strict}
pub use Rattle.ipv6_packet.specs.Reads.{fields_in}
pub use Rattle.teredo_addr.specs.Teredo.{embedded, is_teredo}
unfoldable pub use Rattle.teredo_addr.specs.Teredo.{flags_in, has_cone}
pub use Rattle.bubble.specs.Messages.{is_echo_reply, message_in}
unfoldable pub use Rattle.td_ipv4.specs.Tests.{udp4_at, udp4_fields, udp_fault, udp_place}
pub use Rattle.td_pcap.specs.Records.{Captured}
pub use Rattle.teredo_node.specs.Journal.{Entry, Input, arrived, from_six, given}
pub use Rattle.teredo_node.specs.declared.fate.Fate.{Fate}
pub use Rattle.server_core.specs.declared.server.ServerSettings.{ServerSettings}
unfoldable pub use Rattle.td_audit.specs.Datagrams.{is_audited, same_datagram}
unfoldable pub use Rattle.td_audit.specs.Licences.{reply_to}
unfoldable pub use Rattle.td_audit.specs.Verdicts.{datagram_in}
pub use Rattle.td_explain.specs.Lines.{explained_lines}
unfoldable pub use Rattle.td_explain.specs.Questions.{question_of}
pub use Rattle.td_explain.specs.Said.{all_said}
unfoldable pub use Rattle.td_explain.specs.Said.{said_of}
pub use Rattle.peer_list.specs.Judged.{held_from, holds_most, is_none, is_trusted_at}
pub use Rattle.peer_list.specs.Listed.{has_room, is_listed}
unfoldable pub use Rattle.peer_list.specs.Listed.{listed, touched}
pub use Rattle.peer_list.specs.declared.limits.TheConstants.{PEERS_MAX}
pub use Rattle.qualify.specs.Qualification.{qualification}
pub use Rattle.qualify.specs.Solicitations.{is_qualified}
pub use Rattle.qualify.specs.declared.phase.Phase.{Phase}
pub use Rattle.client_rules.specs.Bearings.{bearing_of, mentions}
unfoldable pub use Rattle.client_rules.specs.Bearings.{mentions as client_mentions}
pub use Rattle.client_rules.specs.Handed.{HoldingRule, held, held_test}
pub use Rattle.client_rules.specs.Tries.{test_bytes}
pub use Rattle.relay_rules.specs.Bearings.{relay_mentions}
pub use Rattle.nat_kinds.specs.Kinds.{is_cone_kind}
pub use Rattle.nat_kinds.specs.declared.kind.NatKind.{NatKind}
pub use Rattle.native_host.specs.Natives.{native_in}
pub use Rattle.topology.specs.Chains.{Inward, chain_in, comes_to, is_inner, nat_set_up, shut_at}
pub use Rattle.topology.specs.Rows.{TopologyState}
pub use Rattle.topology.specs.Topology.{client_at, node_at}
pub use Rattle.topology.specs.declared.client_node.ClientNode.{ClientNode}
pub use Rattle.topology.specs.declared.nat_node.NatNode.{NatNode}
pub use Rattle.topology.specs.declared.native_node.NativeNode.{NativeNode}
pub use Rattle.topology.specs.declared.node.Node.{Node}
pub use Rattle.topology.specs.declared.node.Node.TheVariants.{Client as client, Nat as nat, Native as native, Relay as relay}
pub use Rattle.topology.specs.declared.relay_node.RelayNode.{RelayNode}
unfoldable pub use Rattle.td_chain.specs.ChainRules.{is_chain}
pub use Rattle.events.specs.Scenario.{Scenario}
pub use Rattle.events.specs.declared.event.Event.{Event}
pub use Rattle.history.specs.Full.{Full, Item, udp, wire}
pub use Rattle.history.specs.Telling.{is_kept}
pub use Rattle.legal.specs.Honest.{are_honest, are_honest_for}
pub use Rattle.legal.specs.Lab.{Draws, Lab, flat_lab, lab_on}
pub use Rattle.legal.specs.Next.{address_at}
pub use Rattle.legal.specs.Past.{journal, nat_pasts, now, was_delivered}
pub use Rattle.legal.specs.Settings.{client_settings}
pub use Rattle.theory_settled.specs.Clients.{asks_at, client_address, nat_behind, port_to, standing}
pub use Rattle.theory_settled.specs.Settled.{IsSettled}
pub use Rattle.theory_origins.specs.FromOutside.{HasOutsideOrigin, IsFromOutside, IsOfNative, SentByNative}
pub use Rattle.theory_origins.specs.Handed.{HandsToHost}
pub use Rattle.theory_origins.specs.Live.{IsHeld}
pub use Rattle.theory_origins.specs.Origin.{HandedIn, HasOrigin, PutsFrom, sent_by}
pub use Rattle.theory_origins.specs.Outside.{HeldIn, IsBringer, ReachesHost, at_once, hands_late, hands_now, late}
pub use Rattle.theory_origins.specs.Sources.{outermost}
pub use Rattle.weights.specs.Burden.{burden, burden_most, undelivered_items, waits}
pub use Rattle.weights.specs.Eased.{eased_burden}
unfoldable pub use Rattle.weights.specs.Eased.{weight_with}
unfoldable pub use Rattle.weights.specs.Trust.{host_relay, is_trusted_for, relay_trusts}
unfoldable pub use Rattle.weights.specs.Weights.{datagram_weight}
pub use Rattle.theory_verdicts.specs.Right.{IsRight}
pub use Rattle.theory_verdicts.specs.Undisturbed.{began_seen, has_sent, was_answered, was_lost, was_shut}
pub use Rattle.theory_ways.specs.RightAlong.{IsRightAlong}
pub use Rattle.theory_ways.specs.UndisturbedAlong.{passed_known, was_restarted, was_shut_along}
pub use Rattle.theory_ways.specs.Ways.{has_symmetric, is_all_cone, nats_of, outer_nats_of}
pub use Rattle.theory_first_packets.proofs.schedule.Brought.{within_longer}
pub use Rattle.theory_first_packets.specs.FirstPacket.{GetsThrough, GoesBetween, HasArrived, HostHandsIn}
pub use Rattle.theory_first_packets.specs.MayMeet.{known_by}
pub use Rattle.theory_first_packets.specs.Schedules.{AreFresh, DeliversFresh, HasNoFault, IsComplete, IsWithin, SomeIs, is_fault}
pub use Rattle.theory_first_natives.specs.FromNative.{GetsFromNative, HasArrivedLate, IsFirstFromNative}
pub use Rattle.theory_first_natives.specs.MayMeetThroughRelay.{must_ask}
pub use Rattle.theory_first_natives.specs.NextFromNative.{GivesToHost}
pub use Rattle.theory_first_natives.specs.Relayed.{AreNewToEachOther}
pub use Rattle.theory_first_natives.specs.ToNative.{BringsToNative, GetsToNative, HasAnswered, HasComeToNative, IsFirstToNative, ReachesNative, most_to_native}
unfoldable pub use Rattle.theory_reaching.specs.BetweenClients.{two_clients}
unfoldable pub use Rattle.theory_reaching.specs.Conditions.{is_led_to, is_settled}
unfoldable pub use Rattle.theory_reaching.specs.Finer.{finer_of}
unfoldable pub use Rattle.theory_reaching.specs.FinerClients.{finer_two}
pub use Rattle.theory_reaching.specs.FinerRelayed.{finer_back_row}
unfoldable pub use Rattle.theory_reaching.specs.FinerRelayed.{finer_relayed}
pub use Rattle.theory_reaching.specs.FinerWords.{Finer, away, barred, off, one_nat, within}
pub use Rattle.theory_reaching.specs.FromNative.{from_native_row}
pub use Rattle.theory_reaching.specs.Promises.{BringsWithin, ComesWithHeld, IsNoReply, IsOwnTest, IsSentNext, IsShut}
unfoldable pub use Rattle.theory_reaching.specs.Reach.{reach_of}
pub use Rattle.theory_reaching.specs.ReachLines.{reach_lines}
unfoldable pub use Rattle.theory_reaching.specs.Speaks.{bubbles_stray, is_heard_once_sent, is_of_server, speaks_to, speaks_to_both, strays_to}
pub use Rattle.theory_reaching.specs.declared.word.Reach.{Reach}
pub use Rattle.worked_scenarios.proofs.ConeReports.{cone-sends}
pub use Rattle.worked_scenarios.proofs.MeetingReports.{meeting}
unfoldable pub use Rattle.worked_scenarios.proofs.Playing.{playing}
pub use Rattle.worked_scenarios.proofs.QualifyReports.{cone-nat, early-restart, no-cone-phase, port-nat, refresh, symmetric-nat}
pub use Rattle.worked_scenarios.proofs.Scenes.{ep, ip, ip6, name1, name2, play, play_in, some_words}
pub use Rattle.worked_scenarios.proofs.SettleReports.{settled}
pub use Rattle.worked_facts.specs.Numbers.{BaseNumbers, CaptureNumbers, HostNumbers, NodeNumbers}
