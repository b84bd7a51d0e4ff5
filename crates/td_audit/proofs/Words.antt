-- Where the words of this crate's proofs are defined: its files name them from here. `.ci/words` keeps this file.
pub use Rattle.byteorder.specs.Endian.{big_bytes, big_number}
pub use Rattle.byteorder.specs.Numbers.{big_number-reads_back, length-bytes_high_first}
pub use Rattle.std.proofs.Common.{Bool, Err, List, None, Ok, Option, Result, Some, [], ap, append_assoc, arith, cond, drop, false, inl, inr, is_some, length, map, refl, rules, slice_index_or, subst, suc, sym, take, true, zero, zero-add, ℕ, ◌++◌, ◌+◌, ◌-◌, ◌<◌, ◌^◌, ◌∙◌, ◌∷◌, ◌≡◌, ◌≤◌}
pub use Rattle.std.proofs.lemmas.Bool.{and_from, and_parts, cases_Bool, cases_lt, cond-false, cond-true}
pub use Rattle.std.proofs.lemmas.Cmp.{nat_list_cmp_total}
pub use Rattle.std.proofs.lemmas.List.{append-nil, drop_all, drop_at, length-append, length-map, map-append, take-append-le, take_all, take_at}
pub use Rattle.std.proofs.lemmas.List.Sums.{count_by-le-length, sum_by-append}
pub use Rattle.std.proofs.lemmas.Map.Text.{is_eq-slice_cmp}
pub use Rattle.std.proofs.lemmas.Result.{on_ok_weaker}
pub use Rattle.std.proofs.lemmas.Slice.Eq.{bytes_eq-Decides}
pub use Rattle.std.specs.BTreeMap.{BTreeMap, UpdatesBy, get_by}
pub use Rattle.std.specs.BTreeMap.Entry.{entry_value, map_with_value}
pub use Rattle.std.specs.Cmp.{eq_by_cmp_equiv}
pub use Rattle.std.specs.Cmp.Lexicographic.{slice_cmp}
pub use Rattle.std.specs.Global.{Vec}
pub use Rattle.std.specs.List.{AllByRecursion}
pub use Rattle.std.specs.Map.{AreApart, IsKeyTest, lookup}
unfoldable pub use Rattle.std.specs.Map.{KeepsOthers}
pub use Rattle.std.specs.Ordering.{is_eq, nat_cmp}
pub use Rattle.std.specs.Prelude.{IfErr, IfOk, IfSome, MatchOption, MatchResult, count_by, slice_get, unwrap_or, ◌||◌}
pub use Rattle.std.specs.Str.{bytes_eq}
pub use Rattle.td_base.specs.Ep.{same_ep, same_ep-self, same_ep_decides}
pub use Rattle.td_base.specs.declared.endpoint.Ep.{Ep}
pub use Rattle.td_base.specs.declared.side.Side.{Side}
pub use Rattle.td_base.specs.declared.side.Side.TheVariants.{Primary, Secondary}
pub use Rattle.td_pcap.proofs.LawProofs.{capture_has_no_fault, capture_is_bytes, capture_is_one}
pub use Rattle.td_pcap.proofs.OrderLaws.{regrouped_5}
pub use Rattle.td_pcap.specs.Captures.{CaptureBytes, IsFaultBehindRecords, capture_bytes, records_bytes}
pub use Rattle.td_pcap.specs.Heads.{BeginsWithHead, head_bytes}
pub use Rattle.td_pcap.specs.Records.{Captured, IsCaptured, IsRecordFault, StandsAt, captured, record_bytes}
pub use Rattle.td_pcap.specs.declared.fault.CapFault.{CapFault}
pub use Rattle.td_pcap.specs.declared.head.Head.{Head}
pub use Rattle.td_pcap.specs.declared.record.Rec.{Rec}
pub use Rattle.teredo_node.specs.Step.{Step, just}
pub use Rattle.teredo_node.specs.declared.fate.Fate.{Fate}
pub use Rattle.server_core.specs.Bounds.{endpoint}
pub use Rattle.server_core.specs.Server.{sends_one, server_row}
pub use Rattle.server_core.specs.declared.server.ServerSettings.{ServerSettings}
pub use Rattle.td_audit.specs.Counting.{more}
unfoldable pub use Rattle.td_audit.specs.Counting.{with_record}
pub use Rattle.td_audit.specs.Datagrams.{Datagram, datagram, is_from_audited, is_same, is_skipped, is_to_audited, times}
unfoldable pub use Rattle.td_audit.specs.Datagrams.{is_audited, same_datagram}
pub use Rattle.td_audit.specs.Judging.{HasGrantRoom, IsCovered, Licenses, Runs, Stands, counts_of}
pub use Rattle.td_audit.specs.Keys.{HasKey}
unfoldable pub use Rattle.td_audit.specs.Keys.{key_bytes}
pub use Rattle.td_audit.specs.Left.{left_at, licences_left, one_if}
pub use Rattle.td_audit.specs.Licences.{AreLicensed, IsFirstUnlicensed, on_wire, output, side_with}
unfoldable pub use Rattle.td_audit.specs.Licences.{reply_to}
pub use Rattle.td_audit.specs.Verdicts.{IsAuditFault, IsJudged, IsVerdict, audited, datagram_read, places}
unfoldable pub use Rattle.td_audit.specs.Verdicts.{datagram_in}
pub use Rattle.td_audit.specs.Walk.{Judges, Walks}
pub use Rattle.td_audit.specs.declared.counts.Counts.{Counts}
pub use Rattle.td_audit.specs.declared.fault.AuditFault.{AuditFault}
pub use Rattle.td_audit.specs.declared.fault.AuditFault.TheVariants.{Capture, NoMemory}
pub use Rattle.td_audit.specs.declared.judge.Judge.{Judge}
pub use Rattle.td_audit.specs.declared.licences.Licences.{Licences}
pub use Rattle.td_audit.specs.declared.verdict.Verdict.{Verdict}
