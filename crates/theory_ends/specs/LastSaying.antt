-- The record that said the last of a load that is lost.
use Rattle.std.specs.Prelude.{◌≡◌, ℕ, List, ◌∷◌, ◌++◌, length, Some, Contains}
use Rattle.topology.specs.Rows.{TopologyState}
use Rattle.history.specs.Full.{Full}
use Rattle.loads.specs.declared.load.Load.{Load}
use Rattle.loads.specs.declared.saying.Saying.{Saying}
use Rattle.loads.specs.declared.way.Way.{Way}
use Rattle.loads.specs.declared.end.End.TheVariants.{Lost}
use Rattle.loads.specs.Loads.{loads}
use Rattle.loads.specs.Sayings.{sayings_of}
use Rattle.theory_ends.specs.LostStays.{end_after, said_of_load}

-- that much is said of a load
abbrev pub said_so : Way → Load → Saying
said_so w l = record { load = l; way = w }

-- *last saying*: record j of a history says something of a load, and no later one does.
pub record IsLastSaying (t : TopologyState) (H : List Full) (l : Load) (j : ℕ) : Type 0 where
  pub later : List Full
  pub by : Full
  pub earlier : List Full
  pub split : H ≡ later ++ by ∷ earlier
  pub number : length earlier ≡ j
  pub way : Way
  pub says : Contains (sayings_of t earlier (loads t earlier) by) (said_so way l)
  pub not_after : said_of_load t H l ≡ said_of_load t (by ∷ earlier) l

-- so it is of each load that is lost, by what its end says
abbrev pub LostIsLast : Type 0
LostIsLast = (t : TopologyState) (H : List Full) (l : Load) (j : ℕ) → end_after t H l ≡ Some (Lost j) → IsLastSaying t H l j
