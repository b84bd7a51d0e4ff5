-- Where the words of this crate's proofs are defined: its files name them from here. `.ci/words` keeps this file.
pub use Rattle.std.proofs.Common.{Bool, Err, List, None, Ok, Option, Result, Some, [], ap, append-nil, append_assoc, arith, drop, false, get_or, inl, inr, length, length-append, refl, subst, sym, true, ℕ, ◌%◌, ◌*◌, ◌++◌, ◌+◌, ◌-◌, ◌/◌, ◌<◌, ◌^◌, ◌∙◌, ◌∷◌, ◌≡◌, ◌≤◌}
pub use Rattle.std.proofs.lemmas.Bool.{false≢true}
pub use Rattle.std.proofs.lemmas.List.{drop_more}
pub use Rattle.std.proofs.lemmas.List.Sums.{count_by-le-length}
pub use Rattle.std.proofs.lemmas.Option.{get_or_from_slice_get, slice_get_past, slice_get_read, slice_get_within}
pub use Rattle.std.proofs.lemmas.Result.{err_from_is_err_and}
pub use Rattle.std.specs.Io.KnownBytes.{Appends, Keeps}
pub use Rattle.std.specs.List.{concat}
pub use Rattle.std.specs.Prelude.{IfErr, IfOk, is_some, map, option_map, slice_get}
pub use Rattle.td_base.specs.declared.millis.TheConstants.{CLOCK_END_MS}
pub use Rattle.td_pcap.specs.Captures.{records_bytes}
pub use Rattle.td_pcap.specs.Heads.{head_bytes}
pub use Rattle.td_pcap.specs.Records.{Captured, record_bytes}
pub use Rattle.td_outside.specs.Causes.{Rose}
pub use Rattle.td_outside.specs.MoveLaws.{GainsAll-nil}
pub use Rattle.td_outside.specs.Sink.{SinkState}
pub use Rattle.sink_lines.proofs.Written.{BeginsLines-more, BeginsLines-then, WritesLines-then, Writing-line, not_wrote, nothing_wrote, wrote}
pub use Rattle.sink_lines.specs.LineLaws.{WritesNothing-refl}
pub use Rattle.sink_lines.specs.Lines.{BeginsLines, WritesLines, WritesNothing, Writing}
pub use Rattle.teredo_node.specs.Fate.{is_drop}
pub use Rattle.topology.specs.Chains.{Behind}
pub use Rattle.topology.specs.Rows.{TopologyState}
pub use Rattle.events.specs.Events.{IsEvent}
pub use Rattle.events.specs.Scenario.{Scenario}
pub use Rattle.events.specs.declared.event.Event.{Event}
pub use Rattle.events.specs.declared.event.TheConstants.{ADVANCE_MAX_MS}
pub use Rattle.history.specs.Full.{Full, Item, items_of, wire}
pub use Rattle.history.specs.Records.{record_of}
pub use Rattle.history.specs.Telling.{IsTold, is_kept}
pub use Rattle.history.specs.declared.records.Record.{Record}
pub use Rattle.history.specs.declared.turn.Stop.{Stop}
pub use Rattle.history.specs.declared.turn.Turn.{Turn}
pub use Rattle.history.specs.declared.turn.Turn.TheVariants.{Last, More}
pub use Rattle.report.specs.Lines.{record_line}
pub use Rattle.report.specs.Totals.{IsFew, IsSmall, sums_of, totals_line}
pub use Rattle.report.specs.declared.totals.Sums.{Sums}
pub use Rattle.legal.proofs.LawProofs.{of_its_event}
pub use Rattle.legal.specs.Lab.{Draws, Lab, draws, lab_of, lab_on}
pub use Rattle.legal.specs.Legal.{Begun, IsWhole}
pub use Rattle.legal.specs.Next.{next_of}
unfoldable pub use Rattle.legal.specs.Next.{next}
pub use Rattle.legal.specs.Past.{began, has_more, place}
pub use Rattle.legal.specs.declared.left.TheConstants.{LEFT_MAX}
pub use Rattle.world.specs.Playing.{turn_from}
pub use Rattle.world.specs.WireEntry.{item_lent}
pub use Rattle.world.specs.World.{EndsInTime, Falls, IsAgain, NeedsMemory, StandsFor, Steps, StopsFor, WorldState, going_after, is_more, lab_in, left_in, record_in}
pub use Rattle.world.specs.declared.wire.TheConstants.{ENTRIES_MAX}
pub use Rattle.player.specs.Account.{Account}
pub use Rattle.player.specs.Capture.{capture_head, capture_pieces, capture_records, entry_record, packet_of, record_pieces}
pub use Rattle.player.specs.CaptureLaws.{PiecesAreACapture}
pub use Rattle.player.specs.Endings.{BeginsHistory, FillsWire, FitsWire, IsPlayed, WholeHistory, WritesStarved, last_line, some_lines, whole_lines}
pub use Rattle.player.specs.Hearing.{CanHear, IsHeard, IsNews, records_end}
pub use Rattle.player.specs.PlayFaults.{unheard}
pub use Rattle.player.specs.declared.hear_fault.HearFault.{HearFault}
pub use Rattle.player.specs.declared.player.PlayFault.TheVariants.{Failed, WireFull}
