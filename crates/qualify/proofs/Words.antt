-- Where the words of this crate's proofs are defined: its files name them from here. `.ci/words` keeps this file.
unfoldable pub use Rattle.rand_chacha.specs.Block.{block_word, column_round, diagonal_round, double_rounds, quarter_round}
pub use Rattle.rand_chacha.specs.ChaCha.{ChaCha, key_of, next_word, of_seed, word_at}
unfoldable pub use Rattle.rand_core.specs.Steps.{u32_at}
pub use Rattle.std.proofs.Common.{Bool, List, None, Option, Some, [], ap, arith, cond, false, length, nat_lt, refl, rules, subst, suc, sym, true, zero, ℕ, ◌%◌, ◌++◌, ◌+◌, ◌<◌, ◌^◌, ◌∙◌, ◌∷◌, ◌≡◌}
pub use Rattle.std.proofs.lemmas.Bool.{false≢true}
pub use Rattle.std.proofs.lemmas.List.{length-append}
pub use Rattle.std.specs.Prelude.{filter_map, is_some, option_map, option_to_list, replicate, unwrap_or}
pub use Rattle.td_base.proofs.WriteLemmas.{fills, has_room}
pub use Rattle.td_base.specs.Ep.{server_ep}
pub use Rattle.td_base.specs.declared.endpoint.Ep.{Ep}
pub use Rattle.td_base.specs.declared.ipv4.Ip4.{Ip4}
pub use Rattle.td_base.specs.declared.ipv6.Ip6.{Ip6}
pub use Rattle.td_base.specs.declared.reach.Policy.TheVariants.{Strict}
pub use Rattle.ipv6_packet.proofs.PacketLaws.{packet_len}
pub use Rattle.ipv6_packet.specs.Packets.{Fields}
unfoldable pub use Rattle.ipv6_packet.specs.Packets.{fields_of, packet_at, packet_bytes}
pub use Rattle.icmp6.specs.Blocks.{options_left}
unfoldable pub use Rattle.icmp6.specs.Checksum.{checksum_of}
unfoldable pub use Rattle.icmp6.specs.Layout.{message_bytes}
pub use Rattle.icmp6.specs.Message.{router_solicit}
unfoldable pub use Rattle.teredo_addr.specs.Hidden.{hidden_ep, shown_at}
pub use Rattle.teredo_addr.specs.Teredo.{all_routers}
unfoldable pub use Rattle.teredo_addr.specs.Teredo.{has_cone, link_local, teredo_ip}
pub use Rattle.indications.specs.Blocks.{indications_bytes}
unfoldable pub use Rattle.indications.specs.Indications.{auth_at, head_at, lead_at, origin_at}
pub use Rattle.indications.specs.Leads.{origin_in}
pub use Rattle.bubble.specs.Payloads.{Value, payload_view}
unfoldable pub use Rattle.bubble.specs.Payloads.{payload_at}
pub use Rattle.bubble.specs.Reads.{payload_bytes}
unfoldable pub use Rattle.bubble.specs.Reads.{value_in}
pub use Rattle.teredo_node.specs.Journal.{Entry, Input, Journal, Words, arrived, ticked, with_entry}
pub use Rattle.teredo_node.specs.Rows.{first_line}
pub use Rattle.teredo_node.specs.Sends.{send, sending}
pub use Rattle.teredo_node.specs.Step.{Step, just}
pub use Rattle.teredo_node.specs.Words.{drawn_words, nonce_from}
pub use Rattle.teredo_node.specs.declared.fate.Fate.{Fate}
pub use Rattle.qualify.specs.Advertisements.{advert_lines, advert_words, flags_words, heard, is_same_origin, origin_before, phase_line, prefix_of}
unfoldable pub use Rattle.qualify.specs.Advertisements.{advert_row}
pub use Rattle.qualify.specs.Generator.{chacha20}
unfoldable pub use Rattle.qualify.specs.Generator.{after_words, words_of}
pub use Rattle.qualify.specs.Laws.{KeepsStill, Tidings, Turns, TurnsAtStart, due_after, fresh, goes_on, nonces_then, tidings, tidings_of, turned}
pub use Rattle.qualify.specs.Qualification.{Qualification, address_in, address_told, asked, drawn_nonces, due_in, in_phase, kept_origin, last_interval, next_after, nonces_in, phase_began, phase_of, renewed, state_in}
unfoldable pub use Rattle.qualify.specs.Qualification.{first_phase, qualification}
pub use Rattle.qualify.specs.Qualifier.{AnswersBy, IsOfAdvert, IsOfServer, IsOfTick, QualifierStandsFor, QualifierState, TicksBy, TurnsBy, stands_whole}
pub use Rattle.qualify.specs.Solicitations.{solicits, solicits_by, step_at}
unfoldable pub use Rattle.qualify.specs.Solicitations.{due_step, own_address, solicitation}
pub use Rattle.qualify.specs.State.{asks_so, keeps_up, lasts, nonces_of, qualification_of}
pub use Rattle.qualify.specs.Turns.{Turn, asks_in, asks_restricted, begins, flags_word, interval_word, is_renewal, last_word, leaves, nonce_drawn, origin_given, qualifies, refreshes, renews, says_nothing, turn, turn_of}
unfoldable pub use Rattle.qualify.specs.Turns.{interval_of}
pub use Rattle.qualify.specs.declared.limits.TheConstants.{SOLICITATIONS_MAX, SOLICITATION_GAP_MS}
pub use Rattle.qualify.specs.declared.phase.Phase.{Phase}
pub use Rattle.qualify.specs.declared.phase.Phase.TheVariants.{Cone, OffLine, Qualified, Restricted, Secondary, Symmetric}
pub use Rattle.qualify.specs.declared.round.Round.{Round}
pub use Rattle.qualify.specs.declared.settings.Settings.{Settings}
pub use Rattle.qualify.specs.declared.state.State.{State}
pub use Rattle.qualify.specs.declared.upkeep.Upkeep.{Upkeep}
