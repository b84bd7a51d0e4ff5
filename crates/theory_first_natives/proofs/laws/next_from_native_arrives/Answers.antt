use Rattle.theory_first_natives.proofs.LawProofs.{next_from_native_arrives}
use Rattle.theory_first_natives.proofs.laws.next_from_native_arrives.Goals as goal

pub returns : goal.returns
returns c = next_from_native_arrives
