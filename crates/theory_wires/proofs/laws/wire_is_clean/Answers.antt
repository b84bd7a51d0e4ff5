use Rattle.theory_wires.proofs.LawProofs.{wire_is_clean}
use Rattle.theory_wires.proofs.laws.wire_is_clean.Goals as goal

pub returns : goal.returns
returns c = wire_is_clean
