-- How `reach FILE CHAIN` ends, and what it has then done.
use Rattle.std.specs.Prelude.{◌≡◌, ℕ, List, [], ◌∷◌, codes, Contains, Some, None, Ok, Err}
use Rattle.td_outside.specs.Causes.{Rose}
use Rattle.td_outside.specs.Moves.{Gains}
use Rattle.td_outside.specs.Sink.{SinkState}
use Rattle.td_outside.specs.Source.{SourceState}
use Rattle.topology.specs.Chains.{Behind}
use Rattle.events.specs.Scenario.{Scenario}
use Rattle.theory_promises.specs.Kept.{IsKeptSoFar}
use Rattle.legal.specs.Lab.{lab_of}
use Rattle.td_chain.specs.ChainText.{chain_asked}
use Rattle.theory_reaching.specs.Kept.{WordsKept}
use Rattle.scenario.specs.declared.scenario_fault.ScenarioFault.{ScenarioFault}
use Rattle.scenario.specs.Refusals.{refusal_line}
use Rattle.sink_lines.specs.Lines.{WritesLines, BeginsLines, WritesNothing}
use Rattle.reach_query.specs.ReachAccount.{reach_account}
use Rattle.player.specs.Endings.{WritesAll, WritesFull, BeginsAccount}
use Rattle.commands.specs.declared.statuses.TheConstants.{DONE, BAD_SCENARIO, UNREADABLE, UNWRITABLE, NO_MEMORY, WIRE_FULL, NOT_NESTED}
use Rattle.teredo_app.specs.declared.scenario_file.TheConstants.{TEXT_READ_MAX}
use Rattle.commands.specs.Outside.{NoFault}
use Rattle.commands.specs.SourceText.{TakesAtMost}
use Rattle.teredo_app.specs.Reads.{Reads}

-- the line where the text asks for no chain of the scenario's NATs
abbrev pub no_chain_line : List ℕ
no_chain_line = codes "reach: chain\n"

-- The text of the file is a scenario, and the other text asks for this chain of its NATs; all that is proved of every history is
-- so of its own with it.
pub record ReadsWithChain (i : SourceState) (file text : List ℕ) : Type 0 where
  pub scenario : Scenario
  pub chain : List Behind
  pub reads : Reads i file (Ok scenario)
  -- | See `PlaysAll`: `promised`.
  -- | See `ReadsKept`: `promised`.
  pub promised : IsKeptSoFar scenario chain
  pub asked : chain_asked scenario.topology text ≡ Some chain

-- The text of the file is a scenario, and the other text asks for no chain of its NATs.
pub record ReadsWithoutChain (i : SourceState) (file text : List ℕ) : Type 0 where
  pub scenario : Scenario
  pub reads : Reads i file (Ok scenario)
  pub unasked : chain_asked scenario.topology text ≡ None

-- All lines of the one legal history were written: a word on each two hosts, and the sums. After this history each word
-- keeps its promise.
pub record SaysWords (s : Scenario) (chain : List Behind) (o o' : SinkState) : Type 0 where
  -- | See `ReachEnds`: `done`.
  pub written : WritesAll reach_account s chain o o'
  -- | Where `reach` answers 0, each word keeps its promise, of this very history: the next packet comes within so many
  --   deliveries, or it doesn't come. The very test that the packet's record drew comes to a native host, whatever shut
  --   word it is; and one with the bytes of a packet that the client holds of a native host comes to the client, where
  --   nothing but the four that it holds makes it `full`. It is stated in `Reach.antt`, `theory_reaching/Kept.antt`, with the promises in `theory_reaching/Promises.antt`.
  --   Leaves open: that anything is delivered.
  pub kept : WordsKept (lab_of s chain) written.history

-- what a sink that failed was to hold
pub data ReachBegins (i : SourceState) (o o' : SinkState) (file text : List ℕ) : Type 0 where
  of_words : (n : ReadsWithChain i file text) → BeginsAccount reach_account n.scenario n.chain o o' → ReachBegins i o o' file text
  of_no_chain : ReadsWithoutChain i file text → BeginsLines o o' (no_chain_line ∷ []) → ReachBegins i o o' file text
  of_bad_text : (fault : ScenarioFault) → Reads i file (Err fault) → BeginsLines o o' (refusal_line fault ∷ []) → ReachBegins i o o' file text

-- How it ends: for each status its cause, and what was written. Source and sink stand there as they were before, and as they
-- are after. No line is of a record: nothing is written before all was played.
pub record ReachEnds (i i' : SourceState) (o o' : SinkState) (file text : List ℕ) (status : ℕ) : Type 0 where
  pub statuses : Contains (DONE ∷ BAD_SCENARIO ∷ UNREADABLE ∷ UNWRITABLE ∷ NO_MEMORY ∷ WIRE_FULL ∷ NOT_NESTED ∷ []) status
  -- the file alone was opened, once, and no more of it was read than a text may have, and one byte
  -- | See `PlayEnds`: `opened`.
  pub opened : Gains i.openings i'.openings file
  -- | See `PlayEnds`: `opened`.
  pub taken : TakesAtMost TEXT_READ_MAX i.taken i'.taken
  -- nothing failed, the text is a scenario whose NATs are in the chain that is asked for and whose entries the wire holds,
  -- and all lines were written
  -- | 0 on `reach`: the text is a scenario, CHAIN asks for a chain of its NATs, and the word on each pair of hosts
  --   after its one legal history with that chain was written, a line each, and then the line of the sums. This holds
  --   whatever kinds of nodes and events the scenario has. It is stated in `Reach.antt`, `player/Endings.antt`, with
  --   the lines in `theory_reaching/ReachLines.antt`.
  -- | See `NestedEnds`: `refused`.
  pub done : status ≡ DONE → NoFault i i' o o' × ((n : ReadsWithChain i file text) × SaysWords n.scenario n.chain o o')
  -- nothing failed, the text is a scenario, no chain of its NATs is asked for, and the line that says so was written
  -- | 12 on `reach`: exactly where CHAIN asks for no chain of the scenario's NATs, unless the sink fails or memory runs
  --   out; the line `reach: chain` was written. The text is a scenario then: a text that is none is refused before. It
  --   is stated in `Reach.antt`, by `chain_asked` of `td_chain`.
  -- | See `NestedEnds`: `refused`.
  pub no_chain : status ≡ NOT_NESTED → NoFault i i' o o' × ReadsWithoutChain i file text × WritesLines o o' (no_chain_line ∷ [])
  -- nothing failed, the text is refused, and the line of its first refusal was written
  -- | See `PlayEnds`: `refused`.
  -- | See `NestedEnds`: `refused`.
  pub refused : status ≡ BAD_SCENARIO → NoFault i i' o o' × ((fault : ScenarioFault) × Reads i file (Err fault) × WritesLines o o' (refusal_line fault ∷ []))
  -- the source failed, and nothing was written
  -- | See `PlayEnds`: `unread`.
  -- | See `NestedEnds`: `refused`.
  pub unread : status ≡ UNREADABLE → Rose i.faults i'.faults × (o'.faults ≡ o.faults) × WritesNothing o o'
  -- the sink failed, the source didn't, and a front was written of what was to be written
  -- | See `PlayEnds`: `unwritten`.
  -- | See `NestedEnds`: `refused`.
  pub unwritten : status ≡ UNWRITABLE → Rose o.faults o'.faults × (i'.faults ≡ i.faults) × ReachBegins i o o' file text
  -- memory ran out, nothing failed, and nothing was written
  -- | See `PlayEnds`: `starved`.
  pub starved : status ≡ NO_MEMORY → NoFault i i' o o' × WritesNothing o o'
  -- nothing failed; the next record would make too long a wire, and the line that says so was written
  -- | See `PlayEnds`: `full`.
  -- | See `NestedEnds`: `refused`.
  pub full : status ≡ WIRE_FULL → NoFault i i' o o' × ((n : ReadsWithChain i file text) × WritesFull reach_account n.scenario n.chain o o')
