-- How `nested FILE CHAIN` ends, and what it has then done.
use Rattle.std.specs.Prelude.{◌≡◌, ℕ, List, [], ◌∷◌, ◌⊎◌, Contains, Some, None, Ok, Err}
use Rattle.std.specs.List.{position}
use Rattle.td_outside.specs.Causes.{Rose}
use Rattle.td_outside.specs.Moves.{Gains}
use Rattle.td_outside.specs.Sink.{SinkState}
use Rattle.td_outside.specs.Source.{SourceState}
use Rattle.topology.specs.Chains.{Behind}
use Rattle.events.specs.Scenario.{Scenario}
use Rattle.theory_promises.specs.Kept.{IsKeptSoFar}
use Rattle.td_nested.specs.declared.nested_fault.NestedFault.TheVariants as fault
use Rattle.td_nested.specs.Nested.{IsNested, IsDueFault, is_left_out}
use Rattle.scenario.specs.declared.scenario_fault.ScenarioFault.{ScenarioFault}
use Rattle.scenario.specs.Refusals.{refusal_line}
use Rattle.sink_lines.specs.Lines.{WritesLines, BeginsLines, WritesNothing}
use Rattle.player.specs.Accounts.{report_account}
use Rattle.player.specs.Endings.{WritesAll, WritesFull, WritesStarved, BeginsAccount}
use Rattle.teredo_app.specs.declared.nested_line.NotNested.{NotNested}
use Rattle.teredo_app.specs.declared.nested_line.NotNested.TheVariants.{Chain, Nodes, Event}
use Rattle.commands.specs.declared.statuses.TheConstants.{DONE, BAD_SCENARIO, UNREADABLE, UNWRITABLE, NO_MEMORY, WIRE_FULL, NOT_NESTED}
use Rattle.teredo_app.specs.declared.scenario_file.TheConstants.{TEXT_READ_MAX}
use Rattle.commands.specs.Outside.{NoFault}
use Rattle.commands.specs.SourceText.{TakesAtMost}
use Rattle.teredo_app.specs.Reads.{Reads}
use Rattle.teredo_app.specs.NestedLine.{not_nested_line}

-- A scenario is played with this chain: the text asks for it, no node is a relay or a native host, no event is left out.
pub record IsPlayedIn (s : Scenario) (text : List ℕ) (chain : List Behind) : Type 0 where
  pub nested : IsNested s.topology text chain
  pub events : position is_left_out s.events ≡ None

-- It isn't, and why: the first of the three that applies. The events have their numbers from 0.
abbrev pub IsNotPlayed : Scenario → List ℕ → NotNested → Type 0
IsNotPlayed s text Chain = IsDueFault s.topology text fault.Chain
IsNotPlayed s text Nodes = IsDueFault s.topology text fault.Nodes
IsNotPlayed s text (Event index) = ((chain : List Behind) × IsNested s.topology text chain) × (position is_left_out s.events ≡ Some index)

-- The text of the file is a scenario, which is played with this chain; all that is proved of every history is so of its own.
pub record Nests (i : SourceState) (file text : List ℕ) : Type 0 where
  pub scenario : Scenario
  pub chain : List Behind
  pub reads : Reads i file (Ok scenario)
  -- | See `PlaysAll`: `promised`.
  -- | See `ReadsKept`: `promised`.
  pub promised : IsKeptSoFar scenario chain
  pub played : IsPlayedIn scenario text chain

-- The text of the file is a scenario, and it isn't played, for this reason.
pub record NestsNot (i : SourceState) (file text : List ℕ) (why : NotNested) : Type 0 where
  pub scenario : Scenario
  pub reads : Reads i file (Ok scenario)
  pub not_played : IsNotPlayed scenario text why

-- what a sink that failed was to hold
pub data NestedBegins (i : SourceState) (o o' : SinkState) (file text : List ℕ) : Type 0 where
  of_report : (n : Nests i file text) → BeginsAccount report_account n.scenario n.chain o o' → NestedBegins i o o' file text
  of_reason : (why : NotNested) → NestsNot i file text why → BeginsLines o o' (not_nested_line why ∷ []) → NestedBegins i o o' file text
  of_refusal : (fault : ScenarioFault) → Reads i file (Err fault) → BeginsLines o o' (refusal_line fault ∷ []) → NestedBegins i o o' file text

-- How it ends: for each status its cause, and what was written. Source and sink stand there as they were before, and as they
-- are after. With the chain `-` it writes what `lab` writes.
pub record NestedEnds (i i' : SourceState) (o o' : SinkState) (file text : List ℕ) (status : ℕ) : Type 0 where
  pub statuses : Contains (DONE ∷ BAD_SCENARIO ∷ UNREADABLE ∷ UNWRITABLE ∷ NO_MEMORY ∷ WIRE_FULL ∷ NOT_NESTED ∷ []) status
  -- the file alone was opened, once, and no more of it was read than a text may have, and one byte
  -- | See `PlayEnds`: `opened`.
  pub opened : Gains i.openings i'.openings file
  -- | See `PlayEnds`: `opened`.
  pub taken : TakesAtMost TEXT_READ_MAX i.taken i'.taken
  -- nothing failed, the scenario is played with this chain and its entries fit, and all lines of its report were written
  -- | 0 on `nested`: the text is a scenario that is played with NATs behind others as CHAIN says, and the report of its
  --   one legal history with that chain was written. With `-` that is the history of `lab`, by `dash_is_flat` of
  --   `td_nested`. It is stated in `Nested.antt`, `player/Endings.antt`, with when it is so played in
  --   `td_nested/Nested.antt`.
  -- | See `NestedEnds`: `refused`.
  pub done : status ≡ DONE → NoFault i i' o o' × ((n : Nests i file text) × WritesAll report_account n.scenario n.chain o o')
  -- nothing failed, the scenario isn't played, and the line that says why was written
  -- | 12 else: only on `nested`, where CHAIN asks for no chain of the scenario's NATs, or else there is a relay or a
  --   native host, or else an event is `forget`, `fault` or `settle`; the line of the first of the three, an event with
  --   its number from 0, was written. `IsNotPlayed` says it.
  -- | See `NestedEnds`: `refused`.
  pub not_nested : status ≡ NOT_NESTED → NoFault i i' o o' × ((why : NotNested) × NestsNot i file text why × WritesLines o o' (not_nested_line why ∷ []))
  -- nothing failed, the text is refused, and the line of its first refusal was written
  -- | On `lab`, `wire`, `nested`, `reach`, `follow` and `state` the counts of source and sink stayed with every status but
  --   4 and 5; with 4 the sink's stayed, and with 5 the source's. This holds also of a source and a sink that tell nothing, as the real
  --   ones do. For 7 `starved` says it.
  -- | See `PlayEnds`: `refused`.
  pub refused : status ≡ BAD_SCENARIO → NoFault i i' o o' × ((fault : ScenarioFault) × Reads i file (Err fault) × WritesLines o o' (refusal_line fault ∷ []))
  -- the source failed, and nothing was written
  -- | See `PlayEnds`: `unread`.
  -- | See `NestedEnds`: `refused`.
  pub unread : status ≡ UNREADABLE → Rose i.faults i'.faults × (o'.faults ≡ o.faults) × WritesNothing o o'
  -- the sink failed, the source didn't, and a front was written of what was to be written
  -- | See `PlayEnds`: `unwritten`.
  -- | See `NestedEnds`: `refused`.
  pub unwritten : status ≡ UNWRITABLE → Rose o.faults o'.faults × (i'.faults ≡ i.faults) × NestedBegins i o o' file text
  -- memory ran out, nothing failed, and nothing was written; or it ran out for a record that may want some, and the
  -- lines of those before it were written, whole, and nothing else
  -- | See `PlayEnds`: `starved`.
  pub starved : status ≡ NO_MEMORY → NoFault i i' o o'
      × (WritesNothing o o' ⊎ ((n : Nests i file text) × WritesStarved report_account n.scenario n.chain o o'))
  -- nothing failed; the next record would make too long a wire; the lines of those before it were written, and those
  -- that say so
  -- | See `PlayEnds`: `full`.
  -- | See `NestedEnds`: `refused`.
  pub full : status ≡ WIRE_FULL → NoFault i i' o o' × ((n : Nests i file text) × WritesFull report_account n.scenario n.chain o o')
