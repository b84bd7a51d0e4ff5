-- The scenario of a file.
use Rattle.std.specs.Prelude.{◌≡◌, ℕ, List, Option, IfSome, Result, Ok}
use Rattle.td_outside.specs.Source.{SourceState}
use Rattle.topology.specs.Chains.{Behind}
use Rattle.events.specs.Scenario.{Scenario}
use Rattle.theory_promises.specs.Kept.{IsKeptSoFar}
use Rattle.scenario.specs.declared.scenario_fault.ScenarioFault.{ScenarioFault}
use Rattle.scenario.specs.Scenario.{scenario_of}

-- The text is all the bytes that the name stands for, where the source tells them.
abbrev pub IsNamedText : Option (List ℕ) → List ℕ → Type 0
IsNamedText told text = IfSome told (λ bytes. text ≡ bytes)

-- The text of the file is this scenario, or this is its first refusal.
abbrev pub Reads : SourceState → List ℕ → Result Scenario ScenarioFault → Type 0
Reads i file answer = (text : List ℕ) × IsNamedText (i.stands_for file) text × (scenario_of text ≡ answer)

-- The text of the file is this scenario; and all that is proved of every history is so of its own with this chain, as far as it
-- was played.
pub record ReadsKept (i : SourceState) (file : List ℕ) (s : Scenario) (chain : List Behind) : Type 0 where
  pub reads : Reads i file (Ok s)
  -- | Of the histories that `lab`, `wire`, `nested`, `reach`, `follow`, `state` and `gen` play: what a client that nothing disturbs along
  --   its way makes of its NATs is right, and its address stays; what such a client asks tells it what its NATs are,
  --   where the answer is delivered at once; settled clients have different endpoints in their addresses; deliveries
  --   alone end; and the first packet between two settled clients whose outermost NATs differ arrives in every schedule
  --   that delivers all that it draws, by one of its courses; the first packet of a native host to a settled client
  --   arrives in each such schedule too, where these two and the host's relay are new to each other. This holds at each
  --   record of the history that was played. It is stated in `Reads.antt`, `Ends.antt`, `Nested.antt`, `Reach.antt`,
  --   with what that is in `theory_promises/Kept.antt`, and the histories in `player/Endings.antt`.
  --   Needs: for verdicts, for what an answer tells and for addresses that stay, that nobody speaks for the client's
  --   server; for neighbours that aren't heard, for nobody; for the rest nothing of strangers. What is said along ways
  --   needs a chain that keeps its rules, and each that is played does.
  --   Leaves open: that a client gets a verdict, or becomes settled; what is delivered, and when.
  -- | See `PlaysAll`: `promised`.
  pub promised : IsKeptSoFar s chain
