-- How a command ends that plays the scenario of a file with the chain that is asked for, and writes of each record as soon as it is
-- made; and what it has then done.
use Rattle.std.specs.Prelude.{◌≡◌, ℕ, List, [], ◌∷◌, ◌⊎◌, Contains, Err}
use Rattle.td_outside.specs.Causes.{Rose}
use Rattle.td_outside.specs.Moves.{Gains}
use Rattle.td_outside.specs.Sink.{SinkState}
use Rattle.td_outside.specs.Source.{SourceState}
use Rattle.scenario.specs.declared.scenario_fault.ScenarioFault.{ScenarioFault}
use Rattle.scenario.specs.Refusals.{refusal_line}
use Rattle.sink_lines.specs.Lines.{WritesLines, BeginsLines, WritesNothing}
use Rattle.player.specs.Account.{Account}
use Rattle.player.specs.Endings.{WritesAll, WritesFull, WritesStarved, BeginsAccount}
use Rattle.commands.specs.declared.statuses.TheConstants.{DONE, BAD_SCENARIO, UNREADABLE, UNWRITABLE, NO_MEMORY, WIRE_FULL, NOT_NESTED}
use Rattle.teredo_app.specs.declared.scenario_file.TheConstants.{TEXT_READ_MAX}
use Rattle.commands.specs.Outside.{NoFault}
use Rattle.commands.specs.SourceText.{TakesAtMost}
use Rattle.teredo_app.specs.Reads.{Reads}
use Rattle.teredo_app.specs.Reach.{ReadsWithChain, ReadsWithoutChain}

-- a command that plays a scenario with a chain: what it writes of a history, and its line where the text asks for no chain of the
-- scenario's NATs
pub record ChainCommand : Type 0 where
  pub account : Account
  pub unchained : List ℕ

-- what a sink that failed was to hold
pub data ChainBegins (c : ChainCommand) (i : SourceState) (o o' : SinkState) (file text : List ℕ) : Type 0 where
  of_account : (n : ReadsWithChain i file text) → BeginsAccount c.account n.scenario n.chain o o' → ChainBegins c i o o' file text
  of_unchained : ReadsWithoutChain i file text → BeginsLines o o' (c.unchained ∷ []) → ChainBegins c i o o' file text
  of_no_scenario : (fault : ScenarioFault) → Reads i file (Err fault) → BeginsLines o o' (refusal_line fault ∷ []) → ChainBegins c i o o' file text

-- How it ends: for each status its cause, and what was written. Source and sink stand there as they were before, and as they
-- are after.
pub record ChainEnds (c : ChainCommand) (i i' : SourceState) (o o' : SinkState) (file text : List ℕ) (status : ℕ) : Type 0 where
  pub statuses : Contains (DONE ∷ BAD_SCENARIO ∷ UNREADABLE ∷ UNWRITABLE ∷ NO_MEMORY ∷ WIRE_FULL ∷ NOT_NESTED ∷ []) status
  -- the file alone was opened, once, and no more of it was read than a text may have, and one byte
  -- | See `PlayEnds`: `opened`.
  pub opened : Gains i.openings i'.openings file
  -- | See `PlayEnds`: `opened`.
  pub taken : TakesAtMost TEXT_READ_MAX i.taken i'.taken
  -- nothing failed, the text is a scenario whose NATs are in the chain that is asked for and whose entries the wire holds,
  -- and all lines were written
  -- | 0 on `state`: the text is a scenario, CHAIN asks for a chain of its NATs, and of its one legal history with that
  --   chain the lines were written on what each NAT, client and relay keeps before any record, then those on what each
  --   record changed of it, and then how many records there are. This holds whatever kinds of nodes and events the
  --   scenario has. It is stated in `ChainEnds.antt`, `State.antt`, `player/Endings.antt`, with the lines in
  --   `states/StateLines.antt` and what a record changed in `states/Concerned.antt`.
  -- | 0 on `follow`: the text is a scenario, CHAIN asks for a chain of its NATs, and of its one legal history with that
  --   chain the lines were written on what each record does with the packets of hosts and the replies to them, then a
  --   line on where each packet is in the end, and then how many there are. This holds whatever kinds of nodes and
  --   events the scenario has. It is stated in `ChainEnds.antt`, `Follow.antt`, `player/Endings.antt`, with the lines in
  --   `loads/FollowLines.antt` and what a record does with a packet in `loads/Sayings.antt`.
  -- | See `NestedEnds`: `refused`.
  pub done : status ≡ DONE → NoFault i i' o o' × ((n : ReadsWithChain i file text) × WritesAll c.account n.scenario n.chain o o')
  -- nothing failed, the text is a scenario, no chain of its NATs is asked for, and the line that says so was written
  -- | 12 on `state` and `follow`: exactly where CHAIN asks for no chain of the scenario's NATs, unless the sink fails or
  --   memory runs out; the line `state: chain` or `follow: chain` was written. It is stated in `ChainEnds.antt`, by
  --   `chain_asked` of `td_chain`.
  -- | See `NestedEnds`: `refused`.
  pub no_chain : status ≡ NOT_NESTED → NoFault i i' o o' × ReadsWithoutChain i file text × WritesLines o o' (c.unchained ∷ [])
  -- nothing failed, the text is refused, and the line of its first refusal was written
  -- | See `PlayEnds`: `refused`.
  -- | See `NestedEnds`: `refused`.
  pub refused : status ≡ BAD_SCENARIO → NoFault i i' o o' × ((fault : ScenarioFault) × Reads i file (Err fault) × WritesLines o o' (refusal_line fault ∷ []))
  -- the source failed, and nothing was written
  -- | See `PlayEnds`: `unread`.
  -- | See `NestedEnds`: `refused`.
  pub unread : status ≡ UNREADABLE → Rose i.faults i'.faults × (o'.faults ≡ o.faults) × WritesNothing o o'
  -- the sink failed, the source didn't, and a front was written of what was to be written
  -- | See `PlayEnds`: `unwritten`.
  -- | See `NestedEnds`: `refused`.
  pub unwritten : status ≡ UNWRITABLE → Rose o.faults o'.faults × (i'.faults ≡ i.faults) × ChainBegins c i o o' file text
  -- memory ran out, nothing failed, and nothing was written; or it ran out for a record that may want some, and the
  -- lines of those before it were written, whole, and nothing else
  -- | See `PlayEnds`: `starved`.
  pub starved : status ≡ NO_MEMORY → NoFault i i' o o'
      × (WritesNothing o o' ⊎ ((n : ReadsWithChain i file text) × WritesStarved c.account n.scenario n.chain o o'))
  -- nothing failed; the next record would make too long a wire; the lines of those before it were written, and the one
  -- that says so
  -- | See `PlayEnds`: `full`.
  -- | See `NestedEnds`: `refused`.
  pub full : status ≡ WIRE_FULL → NoFault i i' o o' × ((n : ReadsWithChain i file text) × WritesFull c.account n.scenario n.chain o o')
