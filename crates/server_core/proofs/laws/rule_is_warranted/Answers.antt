use Rattle.server_core.proofs.LawProofs.{rule_is_warranted}
use Rattle.server_core.proofs.laws.rule_is_warranted.Goals as goal

pub returns : goal.returns
returns c = rule_is_warranted
