-- What is written of a history while it is played.
use Rattle.std.specs.Prelude.{ℕ, Bool, List, ◌++◌}
use Rattle.topology.specs.Rows.{TopologyState}
use Rattle.history.specs.Full.{Full}
use Rattle.legal.specs.Lab.{Lab}

-- how a history is written: the lines of each record, the last lines, and the line of a full wire; and for which records
-- that may want memory
pub record Account : Type 0 where
  pub lines : TopologyState → List Full → List (List ℕ)  -- of these records, each as soon as it is made
  pub last : Lab → List Full → List (List ℕ)  -- behind those of the whole history of a laboratory
  pub full : List (List ℕ)  -- behind those of the records before one that would make too long a wire
  pub wants : Full → Bool  -- whether memory may be wanted to hear of the record, besides that which the record itself takes

-- all lines of a whole history
abbrev pub all_lines : Account → Lab → List Full → List (List ℕ)
all_lines a lab H = a.lines lab.topology H ++ a.last lab H

-- all lines up to a full wire
abbrev pub full_lines : Account → TopologyState → List Full → List (List ℕ)
full_lines a t H = a.lines t H ++ a.full
