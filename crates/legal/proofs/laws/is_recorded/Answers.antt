use Rattle.legal.proofs.LawProofs.{is_recorded}
use Rattle.legal.proofs.laws.is_recorded.Goals as goal

pub returns : goal.returns
returns c = is_recorded
