use Rattle.client_rules.proofs.LawProofs.{qualified_has_address}
use Rattle.client_rules.proofs.laws.qualified_has_address.Goals as goal

pub returns : goal.returns
returns c = qualified_has_address
