use Rattle.client_rules.proofs.LawProofs.{each_send}
use Rattle.client_rules.proofs.laws.each_send.Goals as goal

pub returns : goal.returns
returns c = each_send
