use Rattle.client_rules.proofs.LawProofs.{tick_is_warranted}
use Rattle.client_rules.proofs.laws.tick_is_warranted.Goals as goal

pub returns : goal.returns
returns c = tick_is_warranted
