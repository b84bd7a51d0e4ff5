use Rattle.client_rules.proofs.LawProofs.{wants_only_qualified}
use Rattle.client_rules.proofs.laws.wants_only_qualified.Goals as goal

pub returns : goal.returns
returns c = wants_only_qualified
