-- How one part of `state` and of `follow` ends, for the contracts of private functions.
use Rattle.std.specs.Prelude.{◌≡◌, ℕ, List, Result, Some, None}
use Rattle.td_outside.specs.Sink.{SinkState}
use Rattle.topology.specs.Chains.{Behind}
use Rattle.events.specs.Scenario.{Scenario}
use Rattle.td_chain.specs.ChainText.{chain_asked}
use Rattle.player.specs.declared.player.PlayFault.{PlayFault}
use Rattle.sink_lines.specs.Lines.{WritesNothing}
use Rattle.player.specs.Endings.{IsPlayed}
use Rattle.commands.specs.declared.statuses.TheConstants.{NO_MEMORY, NOT_NESTED}
use Rattle.commands.specs.LastLine.{LineEnds}
use Rattle.teredo_app.specs.ChainEnds.{ChainCommand}
use Rattle.teredo_app.specs.Endings.{status_of}

-- how it ends where a file gave a scenario
pub data TellsIn (c : ChainCommand) (o o' : SinkState) (s : Scenario) (text : List ℕ) (result : ℕ) : Type 0 where
  not_started : result ≡ NO_MEMORY → o'.faults ≡ o.faults → WritesNothing o o' → TellsIn c o o' s text result
  none_to_ask : chain_asked s.topology text ≡ None → LineEnds o o' c.unchained NOT_NESTED result → TellsIn c o o' s text result
  told_in : (chain : List Behind) (played : Result (Unit {0}) PlayFault) → chain_asked s.topology text ≡ Some chain
      → IsPlayed c.account s chain o o' played → result ≡ status_of played → TellsIn c o o' s text result
