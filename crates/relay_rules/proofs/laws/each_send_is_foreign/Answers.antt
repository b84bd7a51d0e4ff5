use Rattle.relay_rules.proofs.LawProofs.{each_send_is_foreign}
use Rattle.relay_rules.proofs.laws.each_send_is_foreign.Goals as goal

pub returns : goal.returns
returns c = each_send_is_foreign
