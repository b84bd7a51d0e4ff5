-- Counts that grow by a record, for the contracts of private functions.
use Rattle.std.specs.Prelude.{ℕ, ◌+◌, ◌-◌, ◌^◌, min, Bool, not, ◌&&◌, if◌then◌else◌}
use Rattle.td_audit.specs.declared.counts.Counts.{Counts}

-- one more, where it counts, up to the most of 64 bits
abbrev pub more : ℕ → Bool → ℕ
more number counted = if counted then min (number + 1) (2 ^ 64 - 1) else number

-- the counts before any record
abbrev pub no_counts : Counts
no_counts = record { packets = 0; to = 0; from = 0; skipped = 0 }

-- the counts with one more record, which came to the server, from it, or neither
unfoldable pub with_record : Counts → Bool → Bool → Counts
with_record c to from = record {
  packets = min (c.packets + 1) (2 ^ 64 - 1);
  to = more c.to to;
  from = more c.from from;
  skipped = more c.skipped (not to && not from);
}
