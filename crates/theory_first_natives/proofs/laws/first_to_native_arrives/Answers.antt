use Rattle.theory_first_natives.proofs.LawProofs.{first_to_native_arrives}
use Rattle.theory_first_natives.proofs.laws.first_to_native_arrives.Goals as goal

pub returns : goal.returns
returns c = first_to_native_arrives
