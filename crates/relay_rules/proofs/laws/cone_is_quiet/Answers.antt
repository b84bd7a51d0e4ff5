use Rattle.relay_rules.proofs.LawProofs.{cone_is_quiet}
use Rattle.relay_rules.proofs.laws.cone_is_quiet.Goals as goal

pub returns : goal.returns
returns c = cone_is_quiet
