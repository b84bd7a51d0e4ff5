use Rattle.client_rules.proofs.LawProofs.{fate_of_transmission}
use Rattle.client_rules.proofs.laws.fate_of_transmission.Goals as goal

pub returns : goal.returns
returns c = fate_of_transmission
