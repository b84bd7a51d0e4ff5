-- The line that `qualify` ends with.
use Rattle.std.specs.Prelude.{ℕ, List, ◌++◌, codes}
use Rattle.td_base.specs.Ip6Texts.{ip6_text}
use Rattle.td_live.specs.declared.live.Live.{Live}
use Rattle.td_live.specs.declared.live.Live.TheVariants.{Qualified, Symmetric, OffLine, Undecided}
use Rattle.td_live.specs.declared.live_totals.LiveTotals.{LiveTotals}
use Rattle.commands.specs.declared.statuses.TheConstants.{DONE, UNDECIDED}
use Rattle.commands.specs.ServeLine.{word_and_number}

-- what was found
abbrev pub live_text : Live → List ℕ
live_text (Qualified address) = codes "qualified " ++ ip6_text address
live_text Symmetric = codes "symmetric"
live_text OffLine = codes "offline"
live_text Undecided = codes "undecided"

-- the line of what a client found, and of its attempts
abbrev pub qualify_line : Live → LiveTotals → List ℕ
qualify_line live totals = live_text live ++ (word_and_number (codes " sent ") totals.sent ++ (word_and_number (codes " failed ") totals.failed ++ codes "\n"))

-- the status that goes with it
abbrev pub live_status : Live → ℕ
live_status Undecided = UNDECIDED
live_status _ = DONE
