use Rattle.peer_list.proofs.LawProofs.{touch_goes_on}
use Rattle.peer_list.proofs.laws.touch_goes_on.Goals as goal

pub returns : goal.returns
returns c = touch_goes_on
