-- How the playing of a scenario ends in which these NATs are behind others, and what was written by then. Each history here
-- keeps within the wire.
use Rattle.std.specs.Prelude.{◌≡◌, ◌<◌, ◌≤◌, ◌⊎◌, false, List, ◌∷◌, length, Some, Result, Ok, Err}
use Rattle.td_outside.specs.Causes.{Rose}
use Rattle.topology.specs.Chains.{Behind}
use Rattle.events.specs.Scenario.{Scenario}
use Rattle.history.specs.Full.{Full, wire}
use Rattle.world.specs.declared.wire.TheConstants.{ENTRIES_MAX}
use Rattle.legal.specs.Next.{next}
use Rattle.legal.specs.Lab.{lab_of}
use Rattle.legal.specs.Legal.{Begun, ChainLegal}
use Rattle.world.specs.World.{NeedsMemory}
use Rattle.player.specs.declared.player.PlayFault.{PlayFault}
use Rattle.player.specs.declared.player.PlayFault.TheVariants.{Failed, NoMemory, WireFull}
use Rattle.td_outside.specs.Sink.{SinkState}
use Rattle.sink_lines.specs.Lines.{WritesLines, BeginsLines, WritesNothing}
use Rattle.player.specs.Account.{Account, all_lines, full_lines}

-- the wire holds all its entries
abbrev pub FitsWire : List Full → Type 0
FitsWire H = length (wire H) ≤ ENTRIES_MAX

-- The first records of the scenario, whose entries the wire holds.
pub record BeginsHistory (s : Scenario) (chain : List Behind) (history : List Full) : Type 0 where
  pub begun : Begun (lab_of s chain) s.events history
  pub fits : FitsWire history

-- The one legal history of the scenario, whose entries the wire holds.
pub record WholeHistory (s : Scenario) (chain : List Behind) (history : List Full) : Type 0 where
  pub legal : ChainLegal history s chain
  pub fits : FitsWire history

-- The next record of the scenario would make too long a wire; those before it fit.
pub record FillsWire (s : Scenario) (chain : List Behind) (history : List Full) : Type 0 where
  pub begun : BeginsHistory s chain history
  pub last : Full
  pub next : next (lab_of s chain) s.events history ≡ Some last
  pub full : ENTRIES_MAX < length (wire (last ∷ history))

-- The next record of the scenario may want memory: to hear of it may, or it has a mark, or a packet waits or is held, or a peer is
-- trusted in it.
pub record MayStarve (a : Account) (s : Scenario) (chain : List Behind) (history : List Full) : Type 0 where
  pub begun : BeginsHistory s chain history
  pub last : Full
  pub next : next (lab_of s chain) s.events history ≡ Some last
  pub needs : a.wants last ≡ false → NeedsMemory last

-- All lines of the one legal history were written.
pub record WritesAll (a : Account) (s : Scenario) (chain : List Behind) (old new : SinkState) : Type 0 where
  pub history : List Full
  pub whole : WholeHistory s chain history
  pub lines : WritesLines old new (all_lines a (lab_of s chain) history)

-- The lines of all records before the one that would make too long a wire were written, and those that say so.
pub record WritesFull (a : Account) (s : Scenario) (chain : List Behind) (old new : SinkState) : Type 0 where
  pub history : List Full
  pub fills : FillsWire s chain history
  pub lines : WritesLines old new (full_lines a s.topology history)

-- The lines of all records before the one that wanted memory were written, whole, and nothing else.
pub record WritesStarved (a : Account) (s : Scenario) (chain : List Behind) (old new : SinkState) : Type 0 where
  pub history : List Full
  pub starves : MayStarve a s chain history
  pub lines : WritesLines old new (a.lines s.topology history)

-- A front was written: of the lines of the first records, of all lines, or of those that end with a full wire.
pub data BeginsAccount (a : Account) (s : Scenario) (chain : List Behind) (old new : SinkState) : Type 0 where
  some_lines : (history : List Full) → BeginsHistory s chain history → BeginsLines old new (a.lines s.topology history) → BeginsAccount a s chain old new
  whole_lines : (history : List Full) → WholeHistory s chain history → BeginsLines old new (all_lines a (lab_of s chain) history)
      → BeginsAccount a s chain old new
  last_line : (history : List Full) → FillsWire s chain history → BeginsLines old new (full_lines a s.topology history) → BeginsAccount a s chain old new

-- How it ends: for each answer its cause, and what was written.
abbrev pub IsPlayed : Account → Scenario → List Behind → SinkState → SinkState → Result (Unit {0}) PlayFault → Type 0
-- nothing failed, and all lines were written
IsPlayed a s chain old new (Ok _) = (new.faults ≡ old.faults) × WritesAll a s chain old new
-- the sink failed, and a front was written of what was to be written
IsPlayed a s chain old new (Err Failed) = Rose old.faults new.faults × BeginsAccount a s chain old new
-- nothing failed; memory ran out before the first line, or for a record that may want some
IsPlayed a s chain old new (Err NoMemory) = (new.faults ≡ old.faults) × (WritesNothing old new ⊎ WritesStarved a s chain old new)
-- nothing failed; the next record would make too long a wire
IsPlayed a s chain old new (Err WireFull) = (new.faults ≡ old.faults) × WritesFull a s chain old new
