-- Nine deliveries at most for each entry, and fewer for what waits, from each record of a history on: what can be said of a
-- history that was played.
use Rattle.std.specs.Prelude.{◌≡◌, ◌≤◌, ◌+◌, ◌*◌, List, ◌++◌, length}
use Rattle.std.specs.List.{AllByRecursion}
use Rattle.topology.specs.Rows.{TopologyState}
use Rattle.topology.specs.Rules.{IsTopology}
use Rattle.history.specs.Full.{Full}
use Rattle.legal.specs.Lab.{Lab}
use Rattle.legal.specs.Legal.{Grown}
use Rattle.weights.specs.Burden.{undelivered_items, waits}
use Rattle.theory_storms.specs.Deliveries.{AreNew, GoesOnSettling}
use Rattle.theory_storms.specs.Follow.{FOLLOW_MAX}
use Rattle.theory_storms.specs.ByKind.{AreFewByKind}

-- no more than nine for each entry that is undelivered after H, and each packet that waits
abbrev pub AreAtMostNine : TopologyState → List Full → List Full → Type 0
AreAtMostNine t H later = length later ≤ FOLLOW_MAX * (length (undelivered_items H) + length (waits t H))

-- of the records right after H
pub record NineFollowEach (t : TopologyState) (H later : List Full) : Type 0 where
  -- where each of them delivers an entry for the first time
  pub deliveries : AreNew H later → AreAtMostNine t H later
  -- and those of a `settle` after which it goes on
  pub settling : AllByRecursion GoesOnSettling later → AreAtMostNine t H later
  -- both by what is undelivered and what waits where
  pub by_kind : AreNew H later → AreFewByKind t H later
  pub settling_by_kind : AllByRecursion GoesOnSettling later → AreFewByKind t H later

-- wherever the history is cut, and however many records are taken from there on
abbrev pub NineFollowThroughout : TopologyState → List Full → Type 0
NineFollowThroughout t H = (rest later before : List Full) → H ≡ rest ++ (later ++ before) → NineFollowEach t before later

-- so it is in every history of a topology that keeps its rules
abbrev pub HistoriesHaveNine : Type 0
HistoriesHaveNine = (lab : Lab) (H : List Full) → IsTopology lab.topology → Grown lab H → NineFollowThroughout lab.topology H
