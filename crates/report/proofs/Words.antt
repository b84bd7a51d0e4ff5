-- Where the words of this crate's proofs are defined: its files name them from here. `.ci/words` keeps this file.
pub use Rattle.std.proofs.Common.{Bool, Err, List, Ok, Result, [], add-one, ap, arith, get_or, length, refl, rules, sym, take, ℕ, ◌*◌, ◌++◌, ◌+◌, ◌<◌, ◌^◌, ◌∙◌, ◌∷◌, ◌≡◌, ◌≤◌}
pub use Rattle.std.proofs.Math.Nat.{add_comm}
pub use Rattle.std.proofs.lemmas.Fmt.{length-decimal-le}
pub use Rattle.std.proofs.lemmas.List.{append-nil, length-append, length-map, take_more}
pub use Rattle.std.proofs.lemmas.List.Sums.{sum_by-cons}
pub use Rattle.std.specs.Prelude.{codes, count_by, decimal, filter_map, if◌then◌else◌, is_some, map, slice_index, sum_by}
pub use Rattle.td_base.specs.Prints.{Prints}
pub use Rattle.td_base.specs.Texts.{ep_text}
pub use Rattle.td_base.specs.declared.endpoint.Ep.{Ep}
pub use Rattle.td_base.specs.declared.line.TheConstants.{LINE_LEN}
pub use Rattle.td_base.specs.declared.refusals.Room.{Room}
pub use Rattle.teredo_node.specs.Fate.{is_drop}
pub use Rattle.topology.specs.Rows.{TopologyState}
pub use Rattle.events.specs.Verbs.{verb_word}
pub use Rattle.events.specs.declared.verb.Verb.{Verb}
pub use Rattle.history.specs.Full.{Full, Made, item_in, items_of, lost, sent, six, udp, wire}
pub use Rattle.history.specs.Records.{handed_of, marks_of, record_of}
pub use Rattle.history.specs.Telling.{IsTold, is_delivery, is_entry, is_kept}
pub use Rattle.history.specs.declared.mark.Mark.{Mark}
pub use Rattle.history.specs.declared.records.Record.{Record}
pub use Rattle.report.specs.Lines.{act_text, late_text, mark_text, marks_text, node_text}
pub use Rattle.report.specs.Totals.{added, sums_of}
pub use Rattle.report.specs.declared.fields.TheConstants.{EP_LEN, LATE_LEN}
pub use Rattle.report.specs.declared.marks.TheConstants.{MARK_LEN}
pub use Rattle.report.specs.declared.totals.Sums.{Sums}
