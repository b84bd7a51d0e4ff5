use Rattle.nat_kinds.proofs.LawProofs.{port_has_one_key}
use Rattle.nat_kinds.proofs.laws.port_has_one_key.Goals as goal

pub returns : goal.returns
returns c = port_has_one_key
