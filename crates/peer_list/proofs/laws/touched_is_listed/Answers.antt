use Rattle.peer_list.proofs.LawProofs.{touched_is_listed}
use Rattle.peer_list.proofs.laws.touched_is_listed.Goals as goal

pub returns : goal.returns
returns c = touched_is_listed
