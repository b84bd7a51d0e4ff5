use Rattle.client_rules.proofs.LawProofs.{reception_is_warranted}
use Rattle.client_rules.proofs.laws.reception_is_warranted.Goals as goal

pub returns : goal.returns
returns c = reception_is_warranted
