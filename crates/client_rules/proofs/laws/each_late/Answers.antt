use Rattle.client_rules.proofs.LawProofs.{each_late}
use Rattle.client_rules.proofs.laws.each_late.Goals as goal

pub returns : goal.returns
returns c = each_late
