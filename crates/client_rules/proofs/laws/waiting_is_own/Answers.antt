use Rattle.client_rules.proofs.LawProofs.{waiting_is_own}
use Rattle.client_rules.proofs.laws.waiting_is_own.Goals as goal

pub returns : goal.returns
returns c = waiting_is_own
