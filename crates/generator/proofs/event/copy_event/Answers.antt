use Rattle.std.proofs.Common.{rules}
use Rattle.generator.proofs.event.copy_event.Goals as goal

pub returns : goal.returns
returns c = search rules
