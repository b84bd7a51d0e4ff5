use Rattle.legal.proofs.LawProofs.{acted}
use Rattle.legal.proofs.laws.acted.Goals as goal

pub returns : goal.returns
returns c = acted
