-- The totals of a history, and its report.
use Rattle.std.specs.Prelude.{ℕ, ◌+◌, ◌-◌, ◌*◌, ◌^◌, ◌≤◌, List, [], ◌∷◌, ◌++◌, length, count_by, sum_by, codes, decimal, is_some, if◌then◌else◌}
use Rattle.teredo_node.specs.Fate.{is_drop}
use Rattle.history.specs.declared.records.Record.{Record}
use Rattle.topology.specs.Rows.{TopologyState}
use Rattle.history.specs.Full.{Full, wire}
use Rattle.history.specs.Records.{handed_of}
use Rattle.history.specs.Telling.{is_kept, is_delivery, is_entry}
use Rattle.report.specs.declared.totals.Sums.{Sums}
use Rattle.report.specs.Lines.{lines_text, record_lines}

-- how many records, entries, deliveries of entries, packets handed to hosts at once and late, packets kept by natives, drops
abbrev pub sums_of : List Full → Sums
sums_of H = record {
  records = length H;
  entries = length (wire H);
  delivered = count_by (λ r. is_some r.delivered) H;
  handed = count_by (λ r. is_some (handed_of r)) H + sum_by (λ (r : Full). length r.late) H;
  kept = count_by (λ r. is_kept r.fate) H;
  dropped = count_by (λ r. is_drop r.fate) H;
}

-- the last line of a report
abbrev pub totals_line : Sums → List ℕ
totals_line s =
    codes "total records " ++ (decimal s.records ++ (codes " entries "
    ++ (decimal s.entries ++ (codes " delivered " ++ (decimal s.delivered
    ++ (codes " handed " ++ (decimal s.handed ++ (codes " kept "
    ++ (decimal s.kept ++ (codes " dropped " ++ (decimal s.dropped ++ codes "\n")))))))))))

-- the line of the sums over a history
abbrev pub totals : List Full → List ℕ
totals H = totals_line (sums_of H)

-- a line for each record, and the totals
abbrev pub report_lines : TopologyState → List Full → List (List ℕ)
report_lines t H = record_lines t H ++ totals H ∷ []

-- *report*: the line of each record of a history, in order, and the totals line.
abbrev pub report : TopologyState → List Full → List ℕ
report t H = lines_text (report_lines t H)

-- what a record adds
abbrev pub added : Sums → Record → Sums
added s r = record {
  records = s.records + 1;
  entries = s.entries + count_by is_entry r.marks;
  delivered = s.delivered + (if is_delivery r.act r.fate then 1 else 0);
  handed = s.handed + ((if is_some r.handed then 1 else 0) + length r.late);
  kept = s.kept + (if is_kept r.fate then 1 else 0);
  dropped = s.dropped + (if is_drop r.fate then 1 else 0);
}

-- a record hands over one packet at once at most, and four late
abbrev pub HANDED_MAX : ℕ
HANDED_MAX = 5

-- the sum of what was handed over is no greater than so many records can hand over
pub record IsFew (s : Sums) : Type 0 where
  pub handed : s.handed ≤ HANDED_MAX * s.records

-- room for one more record of at most nine marks
pub record IsSmall (s : Sums) : Type 0 where
  pub records : s.records ≤ 2 ^ 64 - 10
  pub entries : s.entries ≤ 2 ^ 64 - 10
  pub delivered : s.delivered ≤ 2 ^ 64 - 10
  pub handed : s.handed ≤ 2 ^ 64 - 10
  pub kept : s.kept ≤ 2 ^ 64 - 10
  pub dropped : s.dropped ≤ 2 ^ 64 - 10
