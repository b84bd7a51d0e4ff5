use Rattle.nat_kinds.proofs.Words.{rules}
use Rattle.nat_kinds.proofs.translator.Nat.restart.Goals as goal

pub invariant_of-self : goal.invariant_of-self
invariant_of-self c = search rules

pub returns-clause-stands : goal.returns-clause-stands
returns-clause-stands c = search rules
