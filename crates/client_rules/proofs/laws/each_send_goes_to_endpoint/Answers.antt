use Rattle.client_rules.proofs.LawProofs.{each_send_goes_to_endpoint}
use Rattle.client_rules.proofs.laws.each_send_goes_to_endpoint.Goals as goal

pub returns : goal.returns
returns c = each_send_goes_to_endpoint
