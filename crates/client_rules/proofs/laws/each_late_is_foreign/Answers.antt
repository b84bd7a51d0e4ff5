use Rattle.client_rules.proofs.LawProofs.{each_late_is_foreign}
use Rattle.client_rules.proofs.laws.each_late_is_foreign.Goals as goal

pub returns : goal.returns
returns c = each_late_is_foreign
