use Rattle.theory_wires.proofs.LawProofs.{wire_reads_back}
use Rattle.theory_wires.proofs.laws.wire_reads_back.Goals as goal

pub returns : goal.returns
returns c = wire_reads_back
