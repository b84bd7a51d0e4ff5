use Rattle.client_rules.proofs.LawProofs.{qualified_stays}
use Rattle.client_rules.proofs.laws.qualified_stays.Goals as goal

pub returns : goal.returns
returns c = qualified_stays
