-- The lines on pairs of hosts, one after the other, and how many pairs there are so far, by what is said of them.
use Rattle.std.specs.Prelude.{◌≡◌, ◌≤◌, ℕ, List, ◌++◌, length, map, count_by, Result, OnOk}
use Rattle.topology.specs.Rows.{TopologyState}
use Rattle.td_outside.specs.Sink.{SinkState}
use Rattle.theory_reaching.specs.ReachLines.{Said, said_line, says_within, says_shut, says_nothing}
use Rattle.reach_query.specs.declared.pair_counts.PairCounts.{PairCounts}
use Rattle.sink_lines.specs.Lines.{Writing}

-- how many these are
abbrev pub counted_pairs : List Said → PairCounts
counted_pairs ps = record {
  pairs = length ps;
  within = count_by says_within ps;
  shut = count_by says_shut ps;
  unsaid = count_by says_nothing ps;
}

-- no count is above this
pub record AreCountsWithin (most : ℕ) (c : PairCounts) : Type 0 where
  pub pairs : c.pairs ≤ most
  pub within : c.within ≤ most
  pub shut : c.shut ≤ most
  pub unsaid : c.unsaid ≤ most

-- these pairs were counted, too
abbrev pub AreCounted : List Said → PairCounts → PairCounts → Type 0
AreCounted ps old new = (before : List Said) → old ≡ counted_pairs before → new ≡ counted_pairs (before ++ ps)

-- Their lines were written, and they were counted; or the sink failed, and a front of the lines was written.
pub record SaysPairs {E : Type 0} (t : TopologyState) (ps : List Said) (before after : SinkState) (old new : PairCounts) (result : Result (Unit {0}) E)
    : Type 0 where
  pub written : Writing before after (map (said_line t) ps) result
  pub counted : OnOk result (AreCounted ps old new)
