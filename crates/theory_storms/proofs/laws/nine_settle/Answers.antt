use Rattle.theory_storms.proofs.LawProofs.{nine_settle}
use Rattle.theory_storms.proofs.laws.nine_settle.Goals as goal

pub returns : goal.returns
returns c = nine_settle
