use Rattle.std.proofs.Common.{rules}
use Rattle.generator.proofs.words.events_key.Goals as goal

pub returns : goal.returns
returns c = search rules
