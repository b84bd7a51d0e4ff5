use Rattle.peer_list.proofs.LawProofs.{less_overdue}
use Rattle.peer_list.proofs.laws.less_overdue.Goals as goal

pub returns : goal.returns
returns c = less_overdue
