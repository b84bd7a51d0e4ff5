use Rattle.client_rules.proofs.LawProofs.{each_standing_is_made}
use Rattle.client_rules.proofs.laws.each_standing_is_made.Goals as goal

pub returns : goal.returns
returns c = each_standing_is_made
