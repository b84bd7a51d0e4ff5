use Rattle.client_rules.proofs.LawProofs.{each_send_is_short}
use Rattle.client_rules.proofs.laws.each_send_is_short.Goals as goal

pub returns : goal.returns
returns c = each_send_is_short
