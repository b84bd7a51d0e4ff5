-- What is written of where each packet went.
use Rattle.std.specs.Prelude.{true, List, [], ◌∷◌, length, map, ℕ}
use Rattle.topology.specs.Rows.{TopologyState}
use Rattle.history.specs.Full.{Full}
use Rattle.loads.specs.Loads.{loads}
use Rattle.loads.specs.Sayings.{sayings_of}
use Rattle.loads.specs.Ends.{saying_by}
use Rattle.loads.specs.FollowLines.{told_line, follow_lines, end_lines}
use Rattle.player.specs.Account.{Account}
use Rattle.player.specs.Accounts.{wire_full}

-- what each record did with each load that it concerned, and in the end where each packet is
abbrev pub follow_account : Account
follow_account = record { lines = follow_lines; last = λ lab H. end_lines lab.topology H; full = wire_full ∷ []; wants = λ r. true }

-- the lines on what the record after these does with loads
abbrev pub record_follows : TopologyState → List Full → Full → List (List ℕ)
record_follows t H r = map (told_line t) (map (saying_by (length H) r) (sayings_of t H (loads t H) r))
