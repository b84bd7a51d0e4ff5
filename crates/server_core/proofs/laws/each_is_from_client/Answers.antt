use Rattle.server_core.proofs.LawProofs.{each_is_from_client}
use Rattle.server_core.proofs.laws.each_is_from_client.Goals as goal

pub returns : goal.returns
returns c = each_is_from_client
