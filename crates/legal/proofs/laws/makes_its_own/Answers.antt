use Rattle.legal.proofs.LawProofs.{makes_its_own}
use Rattle.legal.proofs.laws.makes_its_own.Goals as goal

pub returns : goal.returns
returns c = makes_its_own
