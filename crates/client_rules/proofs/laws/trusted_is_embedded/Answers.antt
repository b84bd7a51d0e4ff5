use Rattle.client_rules.proofs.LawProofs.{trusted_is_embedded}
use Rattle.client_rules.proofs.laws.trusted_is_embedded.Goals as goal

pub returns : goal.returns
returns c = trusted_is_embedded
