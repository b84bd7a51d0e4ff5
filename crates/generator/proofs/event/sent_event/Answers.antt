use Rattle.std.proofs.Common.{rules}
use Rattle.generator.proofs.event.sent_event.Goals as goal

pub returns-then-kind-eq13 : goal.returns-then-kind-eq13
returns-then-kind-eq13 c = search rules
