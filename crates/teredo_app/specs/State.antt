-- How `state FILE CHAIN each` ends.
use Rattle.std.specs.Prelude.{ℕ, List, codes}
use Rattle.td_outside.specs.Sink.{SinkState}
use Rattle.td_outside.specs.Source.{SourceState}
use Rattle.state_writer.specs.StateAccount.{state_account}
use Rattle.teredo_app.specs.ChainEnds.{ChainCommand, ChainEnds}

-- `state` as a command that plays with a chain
abbrev pub state_command : ChainCommand
state_command = record { account = state_account; unchained = codes "state: chain\n" }

-- How `state FILE CHAIN each` ends: it writes what each node keeps.
abbrev pub StateEnds : SourceState → SourceState → SinkState → SinkState → List ℕ → List ℕ → ℕ → Type 0
StateEnds = ChainEnds state_command
