use Rattle.teredo_addr.proofs.LawProofs.{teredo_tells}
use Rattle.teredo_addr.proofs.laws.teredo_tells.Goals as goal

pub returns : goal.returns
returns c = teredo_tells
