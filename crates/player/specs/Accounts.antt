-- What each player of a scenario writes.
use Rattle.std.specs.Prelude.{ℕ, false, List, [], ◌∷◌, codes}
use Rattle.report.specs.Lines.{record_lines}
use Rattle.report.specs.Totals.{totals}
use Rattle.player.specs.Account.{Account}
use Rattle.player.specs.Capture.{capture_pieces}

-- the line that stands in place of further records
abbrev pub wire_full : List ℕ
wire_full = codes "wire full\n"

-- the report: a line for each record, and then the totals
abbrev pub report_account : Account
report_account = record { lines = record_lines; last = λ lab H. totals H ∷ []; full = wire_full ∷ []; wants = λ r. false }

-- the totals alone
abbrev pub totals_account : Account
totals_account = record { lines = λ t H. []; last = λ lab H. totals H ∷ []; full = wire_full ∷ []; wants = λ r. false }

-- the capture of every entry, and nothing in place of further records
abbrev pub capture_account : Account
capture_account = record { lines = capture_pieces; last = λ lab H. []; full = []; wants = λ r. false }
