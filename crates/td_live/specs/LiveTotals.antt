-- How many attempts of a session succeeded and failed.
use Rattle.std.specs.Prelude.{◌+◌, Bool, not, List, count_by}
use Rattle.td_live.specs.declared.live_totals.LiveTotals.{LiveTotals}

-- the totals before any attempt
abbrev pub no_attempts : LiveTotals
no_attempts = record { sent = 0; failed = 0 }

-- with attempts of which each says whether it succeeded
abbrev pub with_attempts : LiveTotals → List Bool → LiveTotals
with_attempts totals answers = record { sent = totals.sent + count_by (λ sent. sent) answers; failed = totals.failed + count_by not answers }
