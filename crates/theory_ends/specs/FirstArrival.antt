-- The record by which a load arrived first; where an end has another word, none did.
use Rattle.std.specs.Prelude.{◌≡◌, ℕ, false, List, ◌∷◌, ◌++◌, length, Some, Contains}
use Rattle.std.specs.List.{AllByRecursion}
use Rattle.topology.specs.Rows.{TopologyState}
use Rattle.history.specs.Full.{Full}
use Rattle.loads.specs.declared.load.Load.{Load}
use Rattle.loads.specs.declared.saying.Saying.{Saying}
use Rattle.loads.specs.declared.way.Way.TheVariants.{Arrives}
use Rattle.loads.specs.declared.end.End.TheVariants.{Arrived}
use Rattle.loads.specs.Loads.{loads}
use Rattle.loads.specs.Sayings.{sayings_of}
use Rattle.loads.specs.Ends.{NumberedSaying, all_sayings, is_arrival_of}
use Rattle.loads.specs.FollowLines.{has_arrived}
use Rattle.theory_ends.specs.LostStays.{end_after}

-- a load arrives
abbrev pub arrival : Load → Saying
arrival l = record { load = l; way = Arrives }

-- no record says that the load arrives
abbrev pub NeverArrives : TopologyState → List Full → Load → Type 0
NeverArrives t H l = AllByRecursion (λ (s : NumberedSaying). is_arrival_of l s ≡ false) (all_sayings t H)

-- *first arrival*: record j of a history says that a load arrives, and no earlier one does.
pub record IsFirstArrival (t : TopologyState) (H : List Full) (l : Load) (j : ℕ) : Type 0 where
  pub later : List Full
  pub by : Full
  pub earlier : List Full
  pub split : H ≡ later ++ by ∷ earlier
  pub number : length earlier ≡ j
  pub says : Contains (sayings_of t earlier (loads t earlier) by) (arrival l)
  pub not_before : NeverArrives t earlier l

-- so it is of each load that arrived, by what its end says
abbrev pub ArrivedIsFirst : Type 0
ArrivedIsFirst = (t : TopologyState) (H : List Full) (l : Load) (j : ℕ) → end_after t H l ≡ Some (Arrived j) → IsFirstArrival t H l j

-- and where its end says something else, or there is none, it never did
abbrev pub OthersNeverArrive : Type 0
OthersNeverArrive = (t : TopologyState) (H : List Full) (l : Load) → has_arrived (end_after t H l) ≡ false → NeverArrives t H l
