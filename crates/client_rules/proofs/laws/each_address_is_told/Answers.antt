use Rattle.client_rules.proofs.LawProofs.{each_address_is_told}
use Rattle.client_rules.proofs.laws.each_address_is_told.Goals as goal

pub returns : goal.returns
returns c = each_address_is_told
