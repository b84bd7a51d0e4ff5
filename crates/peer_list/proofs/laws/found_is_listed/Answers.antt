use Rattle.peer_list.proofs.LawProofs.{found_is_listed}
use Rattle.peer_list.proofs.laws.found_is_listed.Goals as goal

pub returns : goal.returns
returns c = found_is_listed
