use Rattle.client_rules.proofs.LawProofs.{each_send_is_bytes}
use Rattle.client_rules.proofs.laws.each_send_is_bytes.Goals as goal

pub returns : goal.returns
returns c = each_send_is_bytes
