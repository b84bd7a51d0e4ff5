use Rattle.legal.proofs.LawProofs.{told}
use Rattle.legal.proofs.laws.told.Goals as goal

pub returns : goal.returns
returns c = told
