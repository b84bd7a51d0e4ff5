use Rattle.client_rules.proofs.LawProofs.{queued_is_own}
use Rattle.client_rules.proofs.laws.queued_is_own.Goals as goal

pub returns : goal.returns
returns c = queued_is_own
