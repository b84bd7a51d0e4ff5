use Rattle.world.proofs.Words.{rules}
use Rattle.world.proofs.sender.is_failing.Goals as goal

pub returns-in-Some : goal.returns-in-Some
returns-in-Some = search rules
