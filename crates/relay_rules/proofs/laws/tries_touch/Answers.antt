use Rattle.relay_rules.proofs.LawProofs.{tries_touch}
use Rattle.relay_rules.proofs.laws.tries_touch.Goals as goal

pub returns : goal.returns
returns c = tries_touch
