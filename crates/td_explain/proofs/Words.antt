-- Where the words of this crate's proofs are defined: its files name them from here. `.ci/words` keeps this file.
pub use Rattle.byteorder.specs.Endian.{big_bytes, big_number}
pub use Rattle.byteorder.specs.Numbers.{big_number-reads_back}
pub use Rattle.std.proofs.Common.{Bool, Err, List, None, Ok, Option, Result, Some, [], ap, append_assoc, arith, cond, drop, eq-eqb, false, get_or, inl, inr, length, length-append, map, min, not, refl, rules, subst, suc, sym, take, true, unwrap_or, zero, zero-add, ℕ, ◌++◌, ◌+◌, ◌-◌, ◌<◌, ◌==◌, ◌^◌, ◌∙◌, ◌∷◌, ◌≡◌, ◌≢◌, ◌≤◌}
pub use Rattle.std.proofs.Math.Seq.{take-append-add}
pub use Rattle.std.proofs.lemmas.Bool.{cases_Bool, cases_lt, cond-false, cond-true, eqb-false, eqb-true, false_from_ne_true, lt-ltb, ne_eqb, not-false}
pub use Rattle.std.proofs.lemmas.List.{append-nil, drop-append-le, drop-drop, drop_at, length-map, map-append, take_at}
pub use Rattle.std.proofs.lemmas.List.Quantifiers.{position-Some}
pub use Rattle.std.proofs.lemmas.List.Sums.{count_by-le-length, fails_before_first, passes_at_first, sum_by-append}
pub use Rattle.std.proofs.lemmas.Map.Text.{is_eq-slice_cmp}
pub use Rattle.std.proofs.lemmas.Result.{err_from_is_err_and, on_ok_weaker}
pub use Rattle.std.proofs.lemmas.Slice.Eq.{bytes_eq-Decides}
pub use Rattle.std.specs.BTreeMap.{BTreeMap, get_by, is_at}
pub use Rattle.std.specs.BTreeMap.Entry.{entry_key, entry_value, map_with_value, map_without_entry}
pub use Rattle.std.specs.Cmp.Lexicographic.{slice_cmp}
pub use Rattle.std.specs.Global.{Vec}
pub use Rattle.std.specs.List.{AllByRecursion, position, position_or_len}
pub use Rattle.std.specs.Map.{lookup}
pub use Rattle.std.specs.Ordering.{is_eq, nat_cmp}
pub use Rattle.std.specs.Prelude.{IfSome, codes, count_by, is_some, option_copied, slice_get, slice_set, vec_len, ◌&&◌, ◌||◌}
pub use Rattle.std.specs.Str.{bytes_eq}
pub use Rattle.td_base.proofs.Lists.{all_map}
pub use Rattle.td_base.specs.Ep.{same_ep}
pub use Rattle.td_base.specs.Results.{Gives}
pub use Rattle.td_base.specs.Texts.{ep_text}
pub use Rattle.td_base.specs.declared.endpoint.Ep.{Ep}
pub use Rattle.td_base.specs.declared.side.Side.{Side}
pub use Rattle.td_ipv4.specs.Datagrams.{Udp4Fields}
pub use Rattle.td_ipv4.specs.Tests.{udp4_at}
pub use Rattle.td_ipv4.specs.declared.fault.Ip4Fault.{Ip4Fault}
pub use Rattle.td_ipv4.specs.declared.fault.Ip4Fault.TheVariants.{Short}
pub use Rattle.td_pcap.specs.Captures.{IsFaultBehindRecords, capture_bytes, records_bytes}
pub use Rattle.td_pcap.specs.Heads.{head_bytes}
pub use Rattle.td_pcap.specs.Records.{Captured, IsCaptured, IsRecordFault, StandsAt, captured, record_bytes, step_view}
pub use Rattle.td_pcap.specs.declared.fault.CapFault.{CapFault}
pub use Rattle.td_pcap.specs.declared.record.Rec.{Rec}
pub use Rattle.show.proofs.Joined.{before}
pub use Rattle.show.specs.Lines.{field}
pub use Rattle.teredo_node.specs.Step.{Send, Step, just}
pub use Rattle.teredo_node.specs.declared.fate.Fate.{Fate}
pub use Rattle.server_core.specs.Answers.{Answers}
pub use Rattle.server_core.specs.Bounds.{endpoint}
pub use Rattle.server_core.specs.Server.{server_row}
pub use Rattle.server_core.specs.declared.reply.Answer.{Answer}
pub use Rattle.server_core.specs.declared.server.ServerSettings.{ServerSettings}
pub use Rattle.td_audit.proofs.KeyLaws.{same_is, same_itself, same_of}
pub use Rattle.td_audit.proofs.MapLaws.{Changes, at_key, changed_at}
pub use Rattle.td_audit.proofs.PlaceLaws.{count_more}
pub use Rattle.td_audit.proofs.ReplyLaws.{no_reply, not_for_server, one_reply, own_endpoint}
pub use Rattle.td_audit.proofs.WalkLaws.{starts, steps}
pub use Rattle.td_audit.specs.Datagrams.{Datagram, datagram, is_audited, is_same, times}
unfoldable pub use Rattle.td_audit.specs.Datagrams.{same_datagram}
pub use Rattle.td_audit.specs.Keys.{HasKey, key_bytes}
pub use Rattle.td_audit.specs.Left.{one_if}
pub use Rattle.td_audit.specs.Licences.{IsLicensed, on_wire, output, side_with}
unfoldable pub use Rattle.td_audit.specs.Licences.{reply_to}
pub use Rattle.td_audit.specs.Verdicts.{datagram_read, places}
unfoldable pub use Rattle.td_audit.specs.Verdicts.{datagram_in}
pub use Rattle.td_audit.specs.Walk.{Walks}
pub use Rattle.td_explain.specs.Difference.{difference}
pub use Rattle.td_explain.specs.Earlier.{StandBefore}
pub use Rattle.td_explain.specs.Explained.{at_record}
pub use Rattle.td_explain.specs.Known.{CameOnceMore, DrawnOnceMore, DrawsLike, IsLatest, IsLike, came_at, drawn_at, ledger_licensing, like_at, like_by, once_under, place_listed, places_known, places_listed, seen_under, shape, times_seen}
pub use Rattle.td_explain.specs.Laws.{AgreesWithAudit, LinesGrow}
pub use Rattle.td_explain.specs.Licensing.{answered_after, licensing_or, near_licensing, own_licensing}
pub use Rattle.td_explain.specs.Lines.{drawn_words_of, lines_from, reason_words, said_lines, tally_line}
pub use Rattle.td_explain.specs.Outputs.{Placed, is_like, latest_like, latest_of, outputs_from, own_places, placed_output, with_output}
pub use Rattle.td_explain.specs.Questions.{drawn_of, reason_of}
unfoldable pub use Rattle.td_explain.specs.Questions.{question_of}
pub use Rattle.td_explain.specs.Said.{all_said, said_behind, said_by}
unfoldable pub use Rattle.td_explain.specs.Said.{said_of}
pub use Rattle.td_explain.specs.Tallies.{answered_said, asked_said, draws_datagram, is_among, is_dropped, is_skip, is_unlicensed, licensed_place, licenser, licensers, waiting, waiting_places_from, with_place}
pub use Rattle.td_explain.specs.Telling.{AreBelow, KeepsKnown, KeepsLatest, KeepsLedger, KeepsPast, Tallies, Tells, drawn_datagram, without_place}
pub use Rattle.td_explain.specs.Waits.{HasEnds, IsChain, IsQueue, KeepsWaits, LinksLast, NothingWaits, Queues, TakesFirst, ends_behind, ends_under, ends_waiting, first_and_last, first_of, last_from, link_at, output_at, waiting_for}
pub use Rattle.td_explain.specs.declared.answered.Answered.{Answered}
pub use Rattle.td_explain.specs.declared.answered.Licensing.{Licensing}
pub use Rattle.td_explain.specs.declared.answered.Licensing.TheVariants.{Near}
pub use Rattle.td_explain.specs.declared.earlier.Earlier.{Earlier}
pub use Rattle.td_explain.specs.declared.known.Known.{Known}
pub use Rattle.td_explain.specs.declared.known.Known.TheVariants.{Clean, Whole}
pub use Rattle.td_explain.specs.declared.ledger.Ledger.{Ledger}
pub use Rattle.td_explain.specs.declared.ledger.Seen.{Seen}
pub use Rattle.td_explain.specs.declared.likes.Like.{Like}
pub use Rattle.td_explain.specs.declared.likes.Likes.{Likes}
pub use Rattle.td_explain.specs.declared.past.Past.{Past}
pub use Rattle.td_explain.specs.declared.question.Drawn.{Drawn}
pub use Rattle.td_explain.specs.declared.question.Question.{Question}
pub use Rattle.td_explain.specs.declared.question.Reason.{Reason}
pub use Rattle.td_explain.specs.declared.said.Said.{Said}
pub use Rattle.td_explain.specs.declared.said.Said.TheVariants.{Skipped}
pub use Rattle.td_explain.specs.declared.tally.Counts.{Counts}
pub use Rattle.td_explain.specs.declared.tally.Tallier.{Tallier}
pub use Rattle.td_explain.specs.declared.teller.Teller.{Teller}
pub use Rattle.td_explain.specs.declared.waits.Ends.{Ends}
pub use Rattle.td_explain.specs.declared.waits.Waits.{Waits}
