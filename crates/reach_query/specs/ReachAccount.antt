-- What is written of who reaches whom.
use Rattle.std.specs.Prelude.{false, [], ◌∷◌}
use Rattle.theory_reaching.specs.ReachLines.{reach_lines}
use Rattle.player.specs.Account.{Account}
use Rattle.player.specs.Accounts.{wire_full}

-- who reaches whom after the whole history, and nothing of a record
abbrev pub reach_account : Account
reach_account = record { lines = λ t H. []; last = reach_lines; full = wire_full ∷ []; wants = λ r. false }
