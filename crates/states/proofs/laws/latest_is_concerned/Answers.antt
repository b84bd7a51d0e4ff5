use Rattle.states.proofs.LawProofs.{latest_is_concerned}
use Rattle.states.proofs.laws.latest_is_concerned.Goals as goal

pub returns : goal.returns
returns c = latest_is_concerned
