-- Where the words of this crate's proofs are defined: its files name them from here. `.ci/words` keeps this file.
pub use Rattle.byteorder.specs.Endian.{big_bytes, little_bytes, little_number}
pub use Rattle.byteorder.specs.Numbers.{big_from-lt, big_number-reads_back, length-bytes_high_first, length-bytes_low_first, little_from-lt, little_number-reads_back}
pub use Rattle.std.proofs.Common.{Bool, Err, List, None, Ok, Option, Result, Some, [], ap, append_assoc, arith, cond, drop, eqb, false, inl, inr, leb, length, lit<, ltb, not, refl, rules, subst, suc, sym, take, true, zero, ℕ, ◌++◌, ◌+◌, ◌<◌, ◌^◌, ◌∙◌, ◌∷◌, ◌≡◌, ◌≤◌}
pub use Rattle.std.proofs.lemmas.Bool.{and_from, and_parts, cond-false, cond-true, eq-eqb, eqb-false, eqb-true, le-leb, le-ltb, leb-false, leb-true, lt-leb, ltb-false, ltb-true, not-false, not-true}
pub use Rattle.std.proofs.lemmas.List.{append-nil, drop-drop, drop_all, drop_at, length-append, length-drop, length-take, take-append-drop, take_at}
pub use Rattle.std.proofs.lemmas.Nat.{le_bytes_2, le_bytes_4}
pub use Rattle.std.specs.Int.{bytes_low_first}
pub use Rattle.std.specs.List.{AllByRecursion}
pub use Rattle.std.specs.Prelude.{IfErr, IfOk, IfSome, ◌&&◌}
pub use Rattle.td_base.proofs.BytesLemmas.{Front, IsBytes-append, IsBytes-big_bytes, IsBytes-drop, IsBytes-take, byte_small, cut, cut_2, cut_4, front_more, front_none, front_writes}
pub use Rattle.td_base.proofs.ResultLaws.{chosen, guard_err, guard_ok}
pub use Rattle.td_base.specs.Bytes.{IsBytes, IsPut, number_at}
pub use Rattle.td_base.specs.Results.{Gives}
pub use Rattle.td_pcap.specs.Captures.{CaptureBytes, IsCaptureFault, IsFaultBehindRecords, capture_bytes, of_head, of_record, records_bytes}
pub use Rattle.td_pcap.specs.Heads.{BeginsWithHead, BeginsWithMagic, IsHead, IsHeadFault, head_by, magic_bytes, magic_of}
unfoldable pub use Rattle.td_pcap.specs.Heads.{file_head, form_shown, head_behind, head_bytes, head_of}
pub use Rattle.td_pcap.specs.Laws.{AreOneCapture, CaptureHasNoFault, CaptureIsBytes, CaptureIsOne, HeadReadsBack, RecordReadsBack}
pub use Rattle.td_pcap.specs.Orders.{ordered_bytes, ordered_number}
pub use Rattle.td_pcap.specs.Records.{Captured, IsCaptured, IsRecordFault, StandsAt, captured, kept_said, step_view}
unfoldable pub use Rattle.td_pcap.specs.Records.{captured_at, next_record, record_bytes}
pub use Rattle.td_pcap.specs.declared.fault.CapFault.{CapFault}
pub use Rattle.td_pcap.specs.declared.fault.CapFault.TheVariants.{Big, Cut, Link, Magic, Version}
pub use Rattle.td_pcap.specs.declared.head.Head.{Head}
pub use Rattle.td_pcap.specs.declared.head.TheConstants.{MAGIC_MICRO, MAGIC_NANO}
pub use Rattle.td_pcap.specs.declared.record.Rec.{Rec}
