use Rattle.theory_storms.proofs.LawProofs.{no_more_than_before}
use Rattle.theory_storms.proofs.laws.no_more_than_before.Goals as goal

pub returns : goal.returns
returns c = no_more_than_before
