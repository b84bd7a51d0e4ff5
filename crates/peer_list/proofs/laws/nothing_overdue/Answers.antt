use Rattle.peer_list.proofs.LawProofs.{nothing_overdue}
use Rattle.peer_list.proofs.laws.nothing_overdue.Goals as goal

pub returns : goal.returns
returns c = nothing_overdue
