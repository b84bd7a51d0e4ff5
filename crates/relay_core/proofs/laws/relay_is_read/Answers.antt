use Rattle.relay_core.proofs.LawProofs.{relay_is_read}
use Rattle.relay_core.proofs.laws.relay_is_read.Goals as goal

pub returns : goal.returns
returns c = relay_is_read
