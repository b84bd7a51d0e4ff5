use Rattle.peer_list.proofs.LawProofs.{next_stands}
use Rattle.peer_list.proofs.laws.next_stands.Goals as goal

pub returns : goal.returns
returns c = next_stands
