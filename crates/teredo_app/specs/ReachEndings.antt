-- How one part of `reach` ends, for the contracts of private functions.
use Rattle.std.specs.Prelude.{◌≡◌, ℕ, List, Result, Some, None}
use Rattle.std.specs.List.{AllByRecursion}
use Rattle.td_outside.specs.Sink.{SinkState}
use Rattle.topology.specs.Chains.{Behind}
use Rattle.topology.specs.Rules.{IsTopology}
use Rattle.events.specs.Events.{IsEvent}
use Rattle.events.specs.Scenario.{Scenario}
use Rattle.history.specs.Full.{Full}
use Rattle.legal.specs.Lab.{lab_of}
use Rattle.legal.specs.Legal.{Begun}
use Rattle.td_chain.specs.ChainText.{chain_asked}
use Rattle.theory_reaching.specs.Kept.{WordsKept}
use Rattle.player.specs.declared.player.PlayFault.{PlayFault}
use Rattle.sink_lines.specs.Lines.{WritesNothing}
use Rattle.reach_query.specs.ReachAccount.{reach_account}
use Rattle.player.specs.Endings.{IsPlayed}
use Rattle.commands.specs.declared.statuses.TheConstants.{NO_MEMORY, NOT_NESTED}
use Rattle.teredo_app.specs.Reach.{no_chain_line}
use Rattle.commands.specs.LastLine.{LineEnds}
use Rattle.teredo_app.specs.Endings.{status_of}

-- after these records of the scenario each word keeps its promise
abbrev pub KeepsWords : Scenario → List Behind → Type 0
KeepsWords s chain = (H : List Full) → Begun (lab_of s chain) s.events H → WordsKept (lab_of s chain) H

-- so it is of each scenario, as far as it was played, with each chain that a text asks for
abbrev pub ScenariosKeepWords : Type 0
ScenariosKeepWords = (s : Scenario) (chain : List Behind) (text : List ℕ) → IsTopology s.topology → AllByRecursion (IsEvent s.topology) s.events
    → chain_asked s.topology text ≡ Some chain → KeepsWords s chain

-- how it ends where a file gave a scenario
pub data SaysIn (o o' : SinkState) (s : Scenario) (text : List ℕ) (result : ℕ) : Type 0 where
  not_begun : result ≡ NO_MEMORY → o'.faults ≡ o.faults → WritesNothing o o' → SaysIn o o' s text result
  none_asked : chain_asked s.topology text ≡ None → LineEnds o o' no_chain_line NOT_NESTED result → SaysIn o o' s text result
  said_in : (chain : List Behind) (played : Result (Unit {0}) PlayFault) → chain_asked s.topology text ≡ Some chain → KeepsWords s chain
      → IsPlayed reach_account s chain o o' played → result ≡ status_of played → SaysIn o o' s text result
