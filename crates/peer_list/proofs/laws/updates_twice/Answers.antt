use Rattle.peer_list.proofs.LawProofs.{updates_twice}
use Rattle.peer_list.proofs.laws.updates_twice.Goals as goal

pub returns : goal.returns
returns c = updates_twice
