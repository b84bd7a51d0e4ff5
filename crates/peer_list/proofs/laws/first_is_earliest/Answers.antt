use Rattle.peer_list.proofs.LawProofs.{first_is_earliest}
use Rattle.peer_list.proofs.laws.first_is_earliest.Goals as goal

pub returns : goal.returns
returns c = first_is_earliest
