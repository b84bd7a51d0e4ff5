-- A packet that was lost stays lost, and nothing is said of it any more, until an entry that carries it is delivered again.
use Rattle.std.specs.Prelude.{◌≡◌, ℕ, Bool, false, List, ◌++◌, filter, Option, Some, option_and_then}
use Rattle.std.specs.List.{AllByRecursion}
use Rattle.topology.specs.Rows.{TopologyState}
use Rattle.history.specs.Full.{Full}
use Rattle.legal.specs.Lab.{Lab}
use Rattle.legal.specs.Legal.{Grown}
use Rattle.loads.specs.declared.load.Load.{Load}
use Rattle.loads.specs.declared.load.Load.TheVariants.{Packet, ReplyTo}
use Rattle.loads.specs.declared.end.End.{End}
use Rattle.loads.specs.declared.end.End.TheVariants.{Lost}
use Rattle.loads.specs.Loads.{load_at, loads}
use Rattle.loads.specs.Ends.{NumberedSaying, all_sayings, end_of, is_load, is_said_of}
use Rattle.theory_ends.specs.Gone.{IsGone}

-- where a load is after a history
abbrev pub end_after : TopologyState → List Full → Load → Option End
end_after t H l = end_of t H (loads t H) (all_sayings t H) l

-- all that was said of a load
abbrev pub said_of_load : TopologyState → List Full → Load → List NumberedSaying
said_of_load t H l = filter (is_said_of l) (all_sayings t H)

-- The record delivers an entry that carries the load, where entries carry these.
abbrev pub delivers_load : List (Option Load) → Load → Full → Bool
delivers_load wire l r = is_load l (option_and_then (load_at wire) r.delivered)

-- No later record delivers an entry of the wire after H that carries the packet. A reply comes of its packet too, wherever that
-- is: so of a reply, none delivers an entry that carries the reply or its packet, be it made later or not.
abbrev pub NoneDelivers : TopologyState → List Full → List Full → Load → Type 0
NoneDelivers t H later (Packet k) = AllByRecursion (λ (r : Full). delivers_load (loads t H).wire (Packet k) r ≡ false) later
NoneDelivers t H later (ReplyTo k) = AllByRecursion (λ (r : Full). (delivers_load (loads t (later ++ H)).wire (ReplyTo k) r ≡ false)
    × (delivers_load (loads t (later ++ H)).wire (Packet k) r ≡ false)) later

-- *stays lost*: record j says the last of a load after H, and no later record says anything of it: so it doesn't arrive. It is gone
-- already after H, and each entry that carries it was delivered then; it is still gone, and no later entry carries it.
pub record StaysLost (t : TopologyState) (H later : List Full) (l : Load) (j : ℕ) : Type 0 where
  pub is_gone : IsGone t H l
  pub still_gone : IsGone t (later ++ H) l
  pub unsaid : said_of_load t (later ++ H) l ≡ said_of_load t H l
  pub uncarried : (e : ℕ) → load_at (loads t (later ++ H)).wire e ≡ Some l → load_at (loads t H).wire e ≡ Some l
  pub is_lost : end_after t (later ++ H) l ≡ Some (Lost j)

-- so it is of each load that is lost after some records of a history
abbrev pub LostStaysLost : Type 0
LostStaysLost = (lab : Lab) (H later : List Full) (l : Load) (j : ℕ) → Grown lab (later ++ H) → end_after lab.topology H l ≡ Some (Lost j)
    → NoneDelivers lab.topology H later l → StaysLost lab.topology H later l j
