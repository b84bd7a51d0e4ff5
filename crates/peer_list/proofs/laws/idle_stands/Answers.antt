use Rattle.peer_list.proofs.LawProofs.{idle_stands}
use Rattle.peer_list.proofs.laws.idle_stands.Goals as goal

pub returns : goal.returns
returns c = idle_stands
