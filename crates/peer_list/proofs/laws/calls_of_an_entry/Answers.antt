use Rattle.peer_list.proofs.LawProofs.{calls_of_an_entry}
use Rattle.peer_list.proofs.laws.calls_of_an_entry.Goals as goal

pub returns : goal.returns
returns c = calls_of_an_entry
