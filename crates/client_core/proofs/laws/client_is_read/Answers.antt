use Rattle.client_core.proofs.LawProofs.{client_is_read}
use Rattle.client_core.proofs.laws.client_is_read.Goals as goal

pub returns : goal.returns
returns c = client_is_read
