use Rattle.relay_rules.proofs.LawProofs.{transmission_is_warranted}
use Rattle.relay_rules.proofs.laws.transmission_is_warranted.Goals as goal

pub returns : goal.returns
returns c = transmission_is_warranted
