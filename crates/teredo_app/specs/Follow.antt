-- How `follow FILE CHAIN` ends.
use Rattle.std.specs.Prelude.{ℕ, List, codes}
use Rattle.td_outside.specs.Sink.{SinkState}
use Rattle.td_outside.specs.Source.{SourceState}
use Rattle.follow_writer.specs.FollowAccount.{follow_account}
use Rattle.teredo_app.specs.ChainEnds.{ChainCommand, ChainEnds}

-- `follow` as a command that plays with a chain
abbrev pub follow_command : ChainCommand
follow_command = record { account = follow_account; unchained = codes "follow: chain\n" }

-- How `follow FILE CHAIN` ends: it writes where each packet went.
abbrev pub FollowEnds : SourceState → SourceState → SinkState → SinkState → List ℕ → List ℕ → ℕ → Type 0
FollowEnds = ChainEnds follow_command
