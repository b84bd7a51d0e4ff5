use Rattle.world.proofs.Words.{rules}
use Rattle.world.proofs.wire.Wire.set_delivered.Goals as goal

pub invariant_of-self : goal.invariant_of-self
invariant_of-self c = search rules

pub returns : goal.returns
returns c = search rules
