use Rattle.peer_list.proofs.LawProofs.{first_overdue}
use Rattle.peer_list.proofs.laws.first_overdue.Goals as goal

pub returns : goal.returns
returns c = first_overdue
