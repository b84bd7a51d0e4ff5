use Rattle.client_rules.proofs.LawProofs.{each_handed}
use Rattle.client_rules.proofs.laws.each_handed.Goals as goal

pub returns : goal.returns
returns c = each_handed
