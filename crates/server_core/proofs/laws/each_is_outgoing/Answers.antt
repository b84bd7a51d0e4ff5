use Rattle.server_core.proofs.LawProofs.{each_is_outgoing}
use Rattle.server_core.proofs.laws.each_is_outgoing.Goals as goal

pub returns : goal.returns
returns c = each_is_outgoing
