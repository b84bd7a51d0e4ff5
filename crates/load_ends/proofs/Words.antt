-- Where the words of this crate's proofs are defined: its files name them from here. `.ci/words` keeps this file.
pub use Rattle.std.proofs.Common.{Bool, Err, List, None, Ok, Option, Some, [], ap, append-nil, append_assoc, arith, drop, false, filter, fold, get_or, if◌then◌else◌, length, length-append, map, not, option_and_then, refl, slice_set, subst, suc, sym, take, true, zero, ℕ, ◌&&◌, ◌++◌, ◌+◌, ◌-◌, ◌<◌, ◌==◌, ◌∙◌, ◌∷◌, ◌≡◌, ◌≢◌, ◌≤◌}
pub use Rattle.std.proofs.lemmas.Bool.Decides.{nat_tests}
pub use Rattle.std.proofs.lemmas.List.{drop_all, drop_more, get_or-map, length-map, map-append, reverse-append, take-append-drop, take_all, take_more}
pub use Rattle.std.proofs.lemmas.List.Concat.{flat_map-cons}
pub use Rattle.std.proofs.lemmas.List.Elements.{filter-append}
pub use Rattle.std.proofs.lemmas.Result.{err_from_is_err_and}
pub use Rattle.std.specs.List.{AllByRecursion, flat_map}
pub use Rattle.std.specs.Option.{option_or}
pub use Rattle.std.specs.Prelude.{is_some, slice_get}
pub use Rattle.td_outside.specs.Sink.{SinkState}
pub use Rattle.td_outside.specs.declared.fails.Failed.{Failed}
pub use Rattle.sink_lines.proofs.Written.{WritesLines-then, both_written, ended_early, none_written}
pub use Rattle.sink_lines.specs.Lines.{WritesLines, Writing}
pub use Rattle.teredo_node.specs.declared.fate.Fate.{Fate}
pub use Rattle.topology.specs.Rows.{TopologyState}
pub use Rattle.history.specs.Full.{Full, Made, lost, sent}
pub use Rattle.history.specs.Records.{record_of}
pub use Rattle.history.specs.declared.mark.Mark.{Mark}
pub use Rattle.history.specs.declared.records.Record.{Record}
pub use Rattle.legal.specs.Lab.{Draws}
pub use Rattle.legal.specs.Past.{now, was_delivered}
pub use Rattle.world.specs.World.{StandsFor, WorldState}
pub use Rattle.loads.specs.Ends.{NumberedPacket, NumberedSaying, Whereabouts, all_sayings, first_number, handed_in, handed_in_by, is_arrival, is_arrival_of, is_load, is_said_of, last_number_of, open_entry, same_load, saying_by, whereabouts}
pub use Rattle.loads.specs.FollowLines.{packets_line, whereabouts_line}
pub use Rattle.loads.specs.Loads.{Loads, answer_to, entry_loads, is_handing_in, load_at, load_given, load_goes_on, loads, loads_after, mentions_at, released_records}
pub use Rattle.loads.specs.Numbered.{HeldRecord}
pub use Rattle.loads.specs.Sayings.{arrives_if, dropped_records, ended_records, goes_by, is_late, makes_reply, marks_by, said_of_given, said_of_released, said_to_end, saying, sayings_of, way_by_fate}
pub use Rattle.loads.specs.declared.load.Load.{Load}
pub use Rattle.loads.specs.declared.load.Load.TheVariants.{Packet, ReplyTo}
pub use Rattle.loads.specs.declared.saying.Saying.{Saying}
pub use Rattle.loads.specs.declared.way.Way.{Way}
pub use Rattle.loads.specs.declared.way.Way.TheVariants.{Ends, Goes}
pub use Rattle.load_keeper.proofs.Loops.{next_load}
pub use Rattle.load_keeper.proofs.Wires.{wire_counted}
pub use Rattle.load_keeper.specs.Keeper.{StandsForLoads}
pub use Rattle.load_keeper.specs.declared.load_keeper.LoadKeeper.{LoadKeeper}
pub use Rattle.load_lines.specs.Counts.{Counts}
pub use Rattle.load_lines.specs.declared.counts.EndCounts.{EndCounts}
pub use Rattle.load_ends.specs.AtEnd.{entries_from, rows_by_entry, rows_from, where_is, whereabouts_of}
pub use Rattle.load_ends.specs.Changes.{kept_in_row, packet_number, part_after_saying, part_with_entry, rows_after_saying, rows_changed_at, rows_handed_in, unsaid, with_part}
pub use Rattle.load_ends.specs.Table.{TellsEnds, no_entries, part_told, row_told}
pub use Rattle.load_ends.specs.declared.ends_table.EndsTable.{EndsTable}
pub use Rattle.load_ends.specs.declared.load_row.LoadRow.{LoadRow}
pub use Rattle.load_ends.specs.declared.packet_row.PacketRow.{PacketRow}
