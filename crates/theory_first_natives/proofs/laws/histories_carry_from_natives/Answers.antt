use Rattle.theory_first_natives.proofs.LawProofs.{histories_carry_from_natives}
use Rattle.theory_first_natives.proofs.laws.histories_carry_from_natives.Goals as goal

pub returns : goal.returns
returns c = histories_carry_from_natives
