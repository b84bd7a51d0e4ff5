-- Where the words of this crate's proofs are defined: its files name them from here. `.ci/words` keeps this file.
unfoldable pub use Rattle.rand_chacha.specs.Block.{block_word, column_round, diagonal_round, double_rounds, quarter_round}
pub use Rattle.rand_chacha.specs.ChaCha.{key_of, word_at}
unfoldable pub use Rattle.rand_core.specs.Steps.{u32_at}
pub use Rattle.std.proofs.Common.{List, None, Some, [], arith, map, refl, ℕ, ◌∷◌, ◌≡◌}
unfoldable pub use Rattle.std.specs.Fmt.{digits}
unfoldable pub use Rattle.std.specs.Net.Text.{hex, hex_groups_text}
pub use Rattle.std.specs.Prelude.{Option, codes, false, length, replicate, suc, true, zero, ◌*◌, ◌+◌}
pub use Rattle.td_base.specs.Bytes.{number_at}
unfoldable pub use Rattle.td_base.specs.Ep.{same_ep}
unfoldable pub use Rattle.td_base.specs.Ip4.{same_ip}
unfoldable pub use Rattle.td_base.specs.Ip6.{cmp_ip6, same_ip6}
unfoldable pub use Rattle.td_base.specs.Reach.{is_global, is_global6, is_link_local, is_usable}
pub use Rattle.td_base.specs.declared.endpoint.Ep.{Ep}
pub use Rattle.td_base.specs.declared.ipv4.Ip4.{Ip4}
pub use Rattle.td_base.specs.declared.ipv6.Ip6.{Ip6}
pub use Rattle.td_base.specs.declared.reach.Policy.TheVariants.{Strict}
unfoldable pub use Rattle.ipv6_packet.specs.Packets.{fields_of, packet_at, packet_bytes}
unfoldable pub use Rattle.ipv6_packet.specs.Reads.{fields_in, is_big, is_packet}
unfoldable pub use Rattle.icmp6.specs.Blocks.{options_at}
unfoldable pub use Rattle.icmp6.specs.Checksum.{checksum_of}
unfoldable pub use Rattle.icmp6.specs.Layout.{message_bytes}
unfoldable pub use Rattle.icmp6.specs.Message.{advert_at, echo_reply_at, echo_request_at, message_at, solicit_at}
unfoldable pub use Rattle.icmp6.specs.Options.{option_len, whole_options}
unfoldable pub use Rattle.teredo_addr.specs.Hidden.{hidden_ep, shown_at}
unfoldable pub use Rattle.teredo_addr.specs.Reaching.{is_reachable}
unfoldable pub use Rattle.teredo_addr.specs.Teredo.{embedded, flags_in, has_cone, is_teredo, link_local, server_in, teredo_ip}
unfoldable pub use Rattle.indications.specs.Indications.{auth_at, head_at, lead_at, origin_at}
unfoldable pub use Rattle.indications.specs.Leads.{is_confirmed, is_keyed}
pub use Rattle.bubble.specs.Bubbles.{bubble_bytes}
unfoldable pub use Rattle.bubble.specs.Bubbles.{is_bubble}
unfoldable pub use Rattle.bubble.specs.Messages.{is_ill_formed, message_in}
unfoldable pub use Rattle.bubble.specs.PacketsIn.{destination_in, packet_given, packet_in, source_in}
unfoldable pub use Rattle.bubble.specs.Payloads.{payload_at}
unfoldable pub use Rattle.bubble.specs.Reads.{is_payload, value_in}
pub use Rattle.teredo_node.specs.Journal.{Input, Journal, Words, arrived, given, ticked, with_entry}
pub use Rattle.teredo_node.specs.Step.{Send, just}
pub use Rattle.teredo_node.specs.Words.{nonce_from}
pub use Rattle.teredo_node.specs.declared.fate.Fate.{Fate}
unfoldable pub use Rattle.server_core.specs.Conditions.{is_for_client, is_for_server, is_forged, is_looped, is_not_ours, is_other_kind, is_own, is_solicitation, is_unusable}
unfoldable pub use Rattle.server_core.specs.Outputs.{advert_bytes, forwarded}
unfoldable pub use Rattle.server_core.specs.Rules.{rule_of}
unfoldable pub use Rattle.server_core.specs.Server.{server_row}
pub use Rattle.server_core.specs.declared.server.ServerSettings.{ServerSettings}
unfoldable pub use Rattle.peer_list.specs.Judged.{due_of, holds_most, is_barred, is_fresh, is_full, is_spent, is_trusted_at}
unfoldable pub use Rattle.peer_list.specs.Listed.{has_room, is_listed, listed, stay, touched}
unfoldable pub use Rattle.peer_list.specs.Peers.{peer_at}
unfoldable pub use Rattle.peer_list.specs.Waiting.{cmp_due, first_among, kept_among}
unfoldable pub use Rattle.qualify.specs.Advertisements.{advert_row, prefixes_in}
unfoldable pub use Rattle.qualify.specs.Qualification.{first_phase, qualification}
unfoldable pub use Rattle.qualify.specs.Solicitations.{due_step, expected, own_address, solicitation}
unfoldable pub use Rattle.qualify.specs.Turns.{interval_of}
pub use Rattle.qualify.specs.declared.settings.Settings.{Settings}
unfoldable pub use Rattle.client_rules.specs.Bearings.{mentions as client_mentions}
pub use Rattle.client_rules.specs.Journals.{client_entry}
unfoldable pub use Rattle.client_rules.specs.Journals.{client_due, client_in, client_out, client_tick}
unfoldable pub use Rattle.client_rules.specs.Reception.{is_from_server, reception as client_reception, reception_fate, seen as client_seen}
unfoldable pub use Rattle.client_rules.specs.Standing.{standing_at as client_standing_at}
unfoldable pub use Rattle.client_rules.specs.Ticks.{due_at as client_due_at, next_due}
unfoldable pub use Rattle.client_rules.specs.Transmission.{given as client_given, transmission as client_transmission}
pub use Rattle.client_rules.specs.Tries.{test_bytes}
unfoldable pub use Rattle.client_rules.specs.Tries.{test, try_sends}
unfoldable pub use Rattle.relay_rules.specs.Bearings.{relay_mentions}
unfoldable pub use Rattle.relay_rules.specs.Journals.{relay_due, relay_in, relay_six, relay_tick}
unfoldable pub use Rattle.relay_rules.specs.Reception.{relay_reception, relay_seen}
unfoldable pub use Rattle.relay_rules.specs.Standing.{relay_standing_at}
unfoldable pub use Rattle.relay_rules.specs.Transmission.{bubble_to, relay_given, relay_transmission}
unfoldable pub use Rattle.native_host.specs.Natives.{native_in, native_out}
pub use Rattle.topology.specs.Chains.{Behind}
pub use Rattle.topology.specs.Rows.{TopologyState}
pub use Rattle.topology.specs.declared.node_name.Name.{Name}
pub use Rattle.events.specs.Scenario.{Scenario}
pub use Rattle.events.specs.declared.event.Event.{Event}
pub use Rattle.history.specs.Full.{Full}
pub use Rattle.report.specs.Totals.{report, totals}
pub use Rattle.legal.specs.Lab.{Draws, Lab, flat_lab, lab_on}
unfoldable pub use Rattle.legal.specs.Lab.{draws}
pub use Rattle.legal.specs.Next.{data_packet}
unfoldable pub use Rattle.legal.specs.Next.{next}
