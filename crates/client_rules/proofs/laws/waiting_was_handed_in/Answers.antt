use Rattle.client_rules.proofs.LawProofs.{waiting_was_handed_in}
use Rattle.client_rules.proofs.laws.waiting_was_handed_in.Goals as goal

pub returns : goal.returns
returns c = waiting_was_handed_in
