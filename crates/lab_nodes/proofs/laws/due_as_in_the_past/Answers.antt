use Rattle.lab_nodes.proofs.LawProofs.{due_as_in_the_past}
use Rattle.lab_nodes.proofs.laws.due_as_in_the_past.Goals as goal

pub returns : goal.returns
returns c = due_as_in_the_past
