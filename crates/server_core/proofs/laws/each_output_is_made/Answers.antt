use Rattle.server_core.proofs.LawProofs.{each_output_is_made}
use Rattle.server_core.proofs.laws.each_output_is_made.Goals as goal

pub returns : goal.returns
returns c = each_output_is_made
