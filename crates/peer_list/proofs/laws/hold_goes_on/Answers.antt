use Rattle.peer_list.proofs.LawProofs.{hold_goes_on}
use Rattle.peer_list.proofs.laws.hold_goes_on.Goals as goal

pub returns : goal.returns
returns c = hold_goes_on
