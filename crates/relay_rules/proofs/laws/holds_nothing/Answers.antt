use Rattle.relay_rules.proofs.LawProofs.{holds_nothing}
use Rattle.relay_rules.proofs.laws.holds_nothing.Goals as goal

pub returns : goal.returns
returns c = holds_nothing
