-- What is written of what nodes keep.
use Rattle.std.specs.Prelude.{false, [], ◌∷◌}
use Rattle.states.specs.StateLines.{each_lines, records_line}
use Rattle.player.specs.Account.{Account}
use Rattle.player.specs.Accounts.{wire_full}

-- what all nodes keep before any record, then what each record changed of it, and in the end how many records there are
abbrev pub state_account : Account
state_account = record { lines = each_lines; last = λ lab H. records_line H ∷ []; full = wire_full ∷ []; wants = λ r. false }
