use Rattle.teredo_addr.proofs.LawProofs.{link_local_tells}
use Rattle.teredo_addr.proofs.laws.link_local_tells.Goals as goal

pub returns : goal.returns
returns c = link_local_tells
