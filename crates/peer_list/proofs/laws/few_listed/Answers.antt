use Rattle.peer_list.proofs.LawProofs.{few_listed}
use Rattle.peer_list.proofs.laws.few_listed.Goals as goal

pub returns : goal.returns
returns c = few_listed
