use Rattle.peer_list.proofs.LawProofs.{kept_stands}
use Rattle.peer_list.proofs.laws.kept_stands.Goals as goal

pub returns : goal.returns
returns c = kept_stands
