use Rattle.peer_list.proofs.LawProofs.{update_is_seen}
use Rattle.peer_list.proofs.laws.update_is_seen.Goals as goal

pub returns : goal.returns
returns c = update_is_seen
