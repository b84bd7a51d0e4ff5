use Rattle.lab_nodes.proofs.LawProofs.{waits_as_in_the_past}
use Rattle.lab_nodes.proofs.laws.waits_as_in_the_past.Goals as goal

pub returns : goal.returns
returns c = waits_as_in_the_past
