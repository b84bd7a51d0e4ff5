-- How the program may end, and what it has then done.
use Rattle.std.specs.Prelude.{◌≡◌, ◌≢◌, ◌≤◌, ℕ, true, List, [], ◌∷◌, ◌⊎◌, length, codes, Contains, Option, Some, None, Ok, Err}
use Rattle.td_outside.specs.Causes.{Rose}
use Rattle.td_outside.specs.Moves.{Gains}
use Rattle.events.specs.Scenario.{Scenario}
use Rattle.legal.specs.Lab.{lab_of}
use Rattle.legal.specs.Honest.{is_honest}
use Rattle.scenario.specs.declared.scenario_fault.ScenarioFault.{ScenarioFault}
use Rattle.scenario.specs.Refusals.{refusal_line}
use Rattle.generator.specs.Generated.{generated}
use Rattle.td_outside.specs.Sink.{SinkState}
use Rattle.sink_lines.specs.Lines.{WritesLines, BeginsLines, WritesNothing}
use Rattle.player.specs.Account.{Account}
use Rattle.player.specs.Accounts.{report_account, totals_account, capture_account}
use Rattle.player.specs.Endings.{WritesAll, WritesFull, WritesStarved, BeginsAccount}
use Rattle.theory_wires.specs.ReadsBack.{capture_text}
use Rattle.theory_wires.specs.HoldsWire.{HoldsWire}
use Rattle.commands.specs.declared.capture_file.TheConstants.{CAPTURE_MAX}
use Rattle.commands.specs.declared.statuses.TheConstants.{DONE, BAD_WORDS, BAD_SCENARIO, UNREADABLE, UNWRITABLE, NO_MEMORY, WIRE_FULL}
use Rattle.teredo_app.specs.declared.scenario_file.TheConstants.{TEXT_READ_MAX}
use Rattle.td_outside.specs.Source.{SourceState}
use Rattle.commands.specs.Outside.{Outside, NoFault}
use Rattle.commands.specs.SourceText.{TakesAtMost}
use Rattle.theory_promises.specs.Kept.{IsKeptSoFar}
use Rattle.teredo_app.specs.Reads.{Reads, ReadsKept}
use Rattle.commands.specs.Session.{ServeEnds}
use Rattle.commands.specs.Audit.{AuditEnds}
use Rattle.commands.specs.Explain.{ExplainEnds}
use Rattle.commands.specs.Show.{ShowEnds}
use Rattle.commands.specs.Qualify.{QualifyEnds}
use Rattle.teredo_app.specs.Nested.{NestedEnds}
use Rattle.teredo_app.specs.Reach.{ReachEnds}
use Rattle.teredo_app.specs.Follow.{FollowEnds}
use Rattle.teredo_app.specs.State.{StateEnds}
use Rattle.commands.specs.Command.{Request, lab, serve, show, gen, wire, audit, explain, qualify, nested, reach, follow, state}
use Rattle.commands.specs.declared.gen_words.GenWords.{GenWords}

-- the line of words that are no command
abbrev pub bad_words : List ℕ
bad_words = codes "words\n"

-- the text of the file is a scenario, and all of its lines were written; all that is proved of every history is so of its own
pub record PlaysAll (a : Account) (i : SourceState) (o o' : SinkState) (file : List ℕ) : Type 0 where
  pub scenario : Scenario
  pub reads : Reads i file (Ok scenario)
  -- | On `lab`, `wire`, `nested`, `reach`, `follow`, `state` and `gen` a packet with a Teredo source that a client's
  --   host was handed, or that came to a native host, came from the endpoint that the source embeds; one from outside
  --   Teredo that a client's host was handed came from a relay, for the native host that had sent it, or a named event
  --   put it there;
  --   and an address that a client got, where nobody speaks for its server, embeds its NAT's address, and a port that
  --   the NAT then held for it, or along several NATs leads to it. This holds at each record of the history that was
  --   played: with 0, and with 5, 7 and 8 of the records whose lines were written. Either a `stranger` or a `copy` put
  --   the packet there, or a client's host had handed it in, byte for byte, while that source was the client's address,
  --   and it left that client's outermost NAT from there. It is stated in `Reads.antt`, `Ends.antt`, `Nested.antt`,
  --   `Reach.antt`, `ChainEnds.antt`, with what that is in `theory_promises/Kept.antt`, and the histories in `player/Endings.antt`.
  --   Needs: for the address, that no `stranger` and no `copy` has one of the two endpoints of the client's server as
  --   its source.
  --   Leaves open: who speaks for a relay; that nobody else had the address, since a port may be given again; that
  --   anything arrives.
  -- | See `ReadsKept`: `promised`.
  pub promised : IsKeptSoFar scenario []
  pub written : WritesAll a scenario [] o o'

-- what a sink that failed was to hold
abbrev pub PlayBegins : Account → SourceState → SinkState → SinkState → List ℕ → Type 0
PlayBegins a i o o' file =
    ((s : Scenario) × ReadsKept i file s [] × BeginsAccount a s [] o o')
    ⊎ ((fault : ScenarioFault) × Reads i file (Err fault) × BeginsLines o o' (refusal_line fault ∷ []))

-- How a command ends that plays the scenario of a file, with no NAT behind another one: for each status its cause, and
-- what was written. Source and sink stand there as they were before, and as they are after.
pub record PlayEnds (a : Account) (i i' : SourceState) (o o' : SinkState) (file : List ℕ) (status : ℕ) : Type 0 where
  pub statuses : Contains (DONE ∷ BAD_SCENARIO ∷ UNREADABLE ∷ UNWRITABLE ∷ NO_MEMORY ∷ WIRE_FULL ∷ []) status
  -- the file alone was opened, once, and no more of it was read than a text may have, and one byte
  -- | `lab`, `wire`, `nested`, `reach`, `follow` and `state` open only FILE, once, and take 4,194,305 bytes at most.
  pub opened : Gains i.openings i'.openings file
  -- | See `PlayEnds`: `opened`.
  pub taken : TakesAtMost TEXT_READ_MAX i.taken i'.taken
  -- nothing failed, the text is a scenario whose entries the wire holds, and all of its lines were written
  -- | 0 on `lab`: the text is a scenario, and the report of its one legal history was written.
  -- | See `NestedEnds`: `refused`.
  pub done : status ≡ DONE → NoFault i i' o o' × PlaysAll a i o o' file
  -- nothing failed, the text is refused, and the line of its first refusal was written
  -- | 3: only on `lab`, `wire`, `nested`, `reach`, `follow` and `state`, where the text is refused; the line of its
  --   first refusal was written. It is stated in `Ends.antt`, `Nested.antt`, `Reach.antt`, `ChainEnds.antt`, with the
  --   refusal in `scenario/Scenario.antt` and its line in `scenario/Refusals.antt`.
  -- | See `NestedEnds`: `refused`.
  pub refused : status ≡ BAD_SCENARIO → NoFault i i' o o' × ((fault : ScenarioFault) × Reads i file (Err fault) × WritesLines o o' (refusal_line fault ∷ []))
  -- the source failed, and nothing was written
  -- | 4: only on `lab`, `wire`, `nested`, `reach`, `follow`, `state`, `audit` and `explain`, where the source's count
  --   rose; nothing was written.
  -- | See `NestedEnds`: `refused`.
  pub unread : status ≡ UNREADABLE → Rose i.faults i'.faults × (o'.faults ≡ o.faults) × WritesNothing o o'
  -- the sink failed, the source didn't, and a front was written of what was to be written
  -- | 5: only where the sink's count rose; only a first part of what was to be written was written. It is stated in
  --   `Ends.antt`, `Nested.antt`, `Reach.antt`, `ChainEnds.antt`, `player/Endings.antt`, and those of `commands`.
  -- | See `NestedEnds`: `refused`.
  pub unwritten : status ≡ UNWRITABLE → Rose o.faults o'.faults × (i'.faults ≡ i.faults) × PlayBegins a i o o' file
  -- memory ran out, nothing failed, and nothing was written; or it ran out for a record that may want some, and the
  -- lines of those before it were written, whole, and nothing else
  -- | 7: only on `lab`, `wire`, `nested`, `reach`, `follow`, `state`, `gen`, `audit` and `explain`, where no count rose;
  --   nothing was written, or on `lab`, `wire`, `nested`, `follow` and `state` what comes of the records before one that
  --   may need memory, or on `explain` the lines of some first records of FILE. On `lab`, `wire`, `nested` and `state`,
  --   once something was written: the next record of the legal history has a mark, or a packet waits or is held, or a
  --   peer is trusted in it, and what was written are the lines of all records before it, whole, and nothing else. On
  --   `follow` that record may be any, since hearing of it may need memory. `reach` and `gen` write nothing
  --   before all was played, so that nothing is said of their history: memory may be wanting before its first record,
  --   and no clause tells that from lack of it later. It is stated in `Ends.antt`, `commands/Explain.antt`,
  --   `player/Endings.antt`, with when a record may need memory in `world/World.antt`.
  --   Leaves open: when there is too little memory. A body that always answers 7 is refused by a test.
  pub starved : status ≡ NO_MEMORY → NoFault i i' o o'
      × (WritesNothing o o' ⊎ ((s : Scenario) × ReadsKept i file s [] × WritesStarved a s [] o o'))
  -- nothing failed; the next record would make too long a wire; the lines of those before it were written, and those
  -- that say so
  -- | 8: only on `lab`, `wire`, `nested`, `reach`, `follow`, `state` and `gen`, where the next record would make entry
  --   65,537; on `lab`, `nested`, `follow` and `state` the lines of those before it were written, and then `wire full`;
  --   on `wire` the capture of all their entries, and nothing more; on the others `wire full` alone.
  -- | See `NestedEnds`: `refused`.
  pub full : status ≡ WIRE_FULL → NoFault i i' o o' × ((s : Scenario) × ReadsKept i file s [] × WritesFull a s [] o o')

-- How `lab FILE` ends: it writes the report.
abbrev pub LabEnds : SourceState → SourceState → SinkState → SinkState → List ℕ → ℕ → Type 0
LabEnds = PlayEnds report_account

-- How `wire FILE` ends: it writes the capture of the wire. With 0 this capture, of the same history, holds the wire, so that
-- it is read back and an audit of it is clean; and it isn't too long for an audit.
pub record WireEnds (i i' : SourceState) (o o' : SinkState) (file : List ℕ) (status : ℕ) : Type 0 where
  -- | 0 on `wire`: the text is a scenario, and exactly the capture of its one legal history's wire was written.
  pub played : PlayEnds capture_account i i' o o' file status
  -- | Where `wire` answers 0, what was written holds that wire: it is read back as one record for each entry, in order;
  --   and an audit of it is clean, with the true counts, for a server of the scenario that nobody speaks for and to
  --   which nothing came twice. This is said of the same history.
  --   Needs: for the audit, that no `stranger` and no `copy` has an endpoint of the server as its source, and no entry
  --   to one of the two was delivered twice.
  --   Leaves open: what an audit finds where that isn't so.
  pub holds : (e : status ≡ DONE) → HoldsWire (lab_of (played.done e).1.scenario []) (played.done e).1.written.history
  -- | The capture that `wire` writes isn't too long for `audit` and `explain`. It has at most 96 MiB.
  pub short : (e : status ≡ DONE) → length (capture_text (lab_of (played.done e).1.scenario []) (played.done e).1.written.history) ≤ CAPTURE_MAX

-- the scenario that is asked for
abbrev pub asked_for : GenWords → Scenario
asked_for asked = generated asked.seed asked.count

-- How `gen SEED COUNT` ends: for each status its cause, and what was written. No line is of a record.
pub record GenEnds (o o' : SinkState) (asked : GenWords) (status : ℕ) : Type 0 where
  pub statuses : Contains (DONE ∷ UNWRITABLE ∷ NO_MEMORY ∷ WIRE_FULL ∷ []) status
  -- the scenario is honest, so what is promised of honest ones is so of its history with no premise
  -- | The scenario that `gen` plays is honest, so what is said of honest ones is so of it without a premise. It is
  --   stated in `Ends.antt`, by `generated_is_honest` of `generator`.
  pub honest : is_honest (asked_for asked) ≡ true
  -- all that is proved of every history is so of its own, as far as it was played; where memory ran out nothing was written of it
  -- | See `PlaysAll`: `promised`.
  -- | See `ReadsKept`: `promised`.
  pub promised : status ≢ NO_MEMORY → IsKeptSoFar (asked_for asked) []
  -- nothing failed, the wire holds the scenario's entries, and the totals of its one legal history were written
  -- | 0 on `gen`: the totals line of the generated scenario's one legal history was written, and no other. It is stated
  --   in `Ends.antt`, with the scenario in `generator/Generated.antt`.
  -- | See `GenEnds`: `full`.
  pub done : status ≡ DONE → (o'.faults ≡ o.faults) × WritesAll totals_account (asked_for asked) [] o o'
  -- the sink failed, and a front was written of what was to be written
  -- | See `PlayEnds`: `unwritten`.
  pub unwritten : status ≡ UNWRITABLE → Rose o.faults o'.faults × BeginsAccount totals_account (asked_for asked) [] o o'
  -- memory ran out, nothing failed, and nothing was written
  -- | See `PlayEnds`: `starved`.
  pub starved : status ≡ NO_MEMORY → (o'.faults ≡ o.faults) × WritesNothing o o'
  -- nothing failed; the next record would make too long a wire, and the line that says so was written
  -- | On `gen`, and where the words are no command, the sink's count stayed with every status but 5.
  -- | See `PlayEnds`: `full`.
  pub full : status ≡ WIRE_FULL → (o'.faults ≡ o.faults) × WritesFull totals_account (asked_for asked) [] o o'

-- How it ends where the words are no command.
pub record WordsEnd (o o' : SinkState) (status : ℕ) : Type 0 where
  -- | 2: exactly where the words are no command, unless the sink fails; `words` was written.
  pub statuses : Contains (BAD_WORDS ∷ UNWRITABLE ∷ []) status
  -- | See `WordsEnd`: `statuses`.
  -- | See `GenEnds`: `full`.
  pub refused : status ≡ BAD_WORDS → (o'.faults ≡ o.faults) × WritesLines o o' (bad_words ∷ [])
  -- | See `PlayEnds`: `unwritten`.
  pub unwritten : status ≡ UNWRITABLE → Rose o.faults o'.faults × BeginsLines o o' (bad_words ∷ [])

-- How the program ends, by the command that its words are.
abbrev pub RunEnds : Outside → Outside → Option Request → ℕ → Type 0
RunEnds a b (Some (lab file)) status = LabEnds a.source b.source a.sink b.sink file status
RunEnds a b (Some (serve asked)) status = ServeEnds a.sink b.sink a.link b.link a.clock b.clock asked status
RunEnds a b (Some (show word)) status = ShowEnds a.sink b.sink word status
RunEnds a b (Some (gen asked)) status = GenEnds a.sink b.sink asked status
RunEnds a b (Some (wire file)) status = WireEnds a.source b.source a.sink b.sink file status
RunEnds a b (Some (audit asked file)) status = AuditEnds a.source b.source a.sink b.sink asked file status
RunEnds a b (Some (explain asked file)) status = ExplainEnds a.source b.source a.sink b.sink asked file status
RunEnds a b (Some (qualify asked)) status = QualifyEnds a.sink b.sink a.link b.link a.clock b.clock asked status
RunEnds a b (Some (nested file chain)) status = NestedEnds a.source b.source a.sink b.sink file chain status
RunEnds a b (Some (reach file chain)) status = ReachEnds a.source b.source a.sink b.sink file chain status
RunEnds a b (Some (follow file chain)) status = FollowEnds a.source b.source a.sink b.sink file chain status
RunEnds a b (Some (state file chain)) status = StateEnds a.source b.source a.sink b.sink file chain status
RunEnds a b None status = WordsEnd a.sink b.sink status

-- The program may end with this status where it is asked for this: its states before and after fit.
pub record MayEnd (asked : Option Request) (status : ℕ) : Type 0 where
  pub before : Outside
  pub after : Outside
  pub ends : RunEnds before after asked status
