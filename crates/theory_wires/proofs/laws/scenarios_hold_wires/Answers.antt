use Rattle.theory_wires.proofs.LawProofs.{scenarios_hold_wires}
use Rattle.theory_wires.proofs.laws.scenarios_hold_wires.Goals as goal

pub returns : goal.returns
returns c = scenarios_hold_wires
