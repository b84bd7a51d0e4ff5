use Rattle.teredo_addr.proofs.LawProofs.{teredo_is_made}
use Rattle.teredo_addr.proofs.laws.teredo_is_made.Goals as goal

pub returns : goal.returns
returns c = teredo_is_made
