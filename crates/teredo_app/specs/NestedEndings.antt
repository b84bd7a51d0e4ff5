-- How one part of `nested` ends, for the contracts of private functions.
use Rattle.std.specs.Prelude.{◌≡◌, ℕ, List, Result}
use Rattle.td_outside.specs.Sink.{SinkState}
use Rattle.topology.specs.Chains.{Behind}
use Rattle.events.specs.Scenario.{Scenario}
use Rattle.td_nested.specs.declared.nested_fault.NestedFault.{NestedFault}
use Rattle.td_nested.specs.declared.nested_fault.NestedFault.TheVariants as fault
use Rattle.player.specs.declared.player.PlayFault.{PlayFault}
use Rattle.sink_lines.specs.Lines.{WritesNothing}
use Rattle.player.specs.Accounts.{report_account}
use Rattle.player.specs.Endings.{IsPlayed}
use Rattle.teredo_app.specs.declared.nested_file.NoChains.{NoChains}
use Rattle.teredo_app.specs.declared.nested_file.NoChains.TheVariants.{Refused, NoMemory}
use Rattle.teredo_app.specs.declared.nested_line.NotNested.{NotNested}
use Rattle.teredo_app.specs.declared.nested_line.NotNested.TheVariants.{Chain, Nodes}
use Rattle.commands.specs.declared.statuses.TheConstants.{NO_MEMORY, NOT_NESTED}
use Rattle.teredo_app.specs.NestedLine.{not_nested_line}
use Rattle.teredo_app.specs.Nested.{IsPlayedIn, IsNotPlayed}
use Rattle.commands.specs.LastLine.{LineEnds}
use Rattle.teredo_app.specs.Endings.{status_of}

-- why a scenario has no chain, by why the text and the nodes make no such laboratory
abbrev pub no_chains : NestedFault → NoChains
no_chains fault.Chain = Refused Chain
no_chains fault.Nodes = Refused Nodes
no_chains fault.NoMemory = NoMemory

-- a scenario has no chain to be played with: for a reason, or for want of memory
abbrev pub NoChainsFor : Scenario → List ℕ → NoChains → Type 0
NoChainsFor s text (Refused why) = IsNotPlayed s text why
NoChainsFor s text NoMemory = Unit {0}

-- how it ends where a file gave a scenario
pub data PlaysIn (o o' : SinkState) (s : Scenario) (text : List ℕ) (result : ℕ) : Type 0 where
  not_held : result ≡ NO_MEMORY → o'.faults ≡ o.faults → WritesNothing o o' → PlaysIn o o' s text result
  not_fit : (why : NotNested) → IsNotPlayed s text why → LineEnds o o' (not_nested_line why) NOT_NESTED result → PlaysIn o o' s text result
  played_in : (chain : List Behind) (played : Result (Unit {0}) PlayFault) → IsPlayedIn s text chain → IsPlayed report_account s chain o o' played
      → result ≡ status_of played → PlaysIn o o' s text result
