-- How many packets have each end.
use Rattle.std.specs.Prelude.{◌≡◌, ℕ, List, [], ◌++◌, length, codes, decimal}
use Rattle.loads.specs.Ends.{Whereabouts}
use Rattle.loads.specs.FollowLines.{count_ends, has_arrived, still_waits, is_still_held, is_still_on_wire, has_been_lost}
use Rattle.load_lines.specs.declared.counts.EndCounts.{EndCounts}

-- These are how many there are, and how many have each end.
pub record Counts (c : EndCounts) (ws : List Whereabouts) : Type 0 where
  pub packets : c.packets ≡ length ws
  pub arrived : c.arrived ≡ count_ends has_arrived ws
  pub waits : c.waits ≡ count_ends still_waits ws
  pub held : c.held ≡ count_ends is_still_held ws
  pub wire : c.wire ≡ count_ends is_still_on_wire ws
  pub lost : c.lost ≡ count_ends has_been_lost ws

-- the end of the line of these numbers
abbrev pub rest_text : EndCounts → List ℕ
rest_text c = codes " held " ++ (decimal c.held ++ (codes " wire " ++ (decimal c.wire ++ (codes " lost " ++ (decimal c.lost ++ codes "\n")))))

-- the line of these numbers: total packets P arrived A waits W held H wire U lost L
abbrev pub counts_text : EndCounts → List ℕ
counts_text c = codes "total packets " ++ (decimal c.packets ++ (codes " arrived " ++ (decimal c.arrived ++ (codes " waits " ++ (decimal c.waits ++ rest_text c)))))
