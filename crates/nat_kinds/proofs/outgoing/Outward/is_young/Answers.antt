use Rattle.nat_kinds.proofs.Words.{rules}
use Rattle.nat_kinds.proofs.outgoing.Outward.is_young.Goals as goal

pub returns : goal.returns
returns c = search rules
