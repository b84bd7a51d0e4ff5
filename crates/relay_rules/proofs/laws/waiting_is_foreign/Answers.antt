use Rattle.relay_rules.proofs.LawProofs.{waiting_is_foreign}
use Rattle.relay_rules.proofs.laws.waiting_is_foreign.Goals as goal

pub returns : goal.returns
returns c = waiting_is_foreign
