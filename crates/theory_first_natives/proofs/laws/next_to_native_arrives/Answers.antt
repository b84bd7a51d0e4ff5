use Rattle.theory_first_natives.proofs.LawProofs.{next_to_native_arrives}
use Rattle.theory_first_natives.proofs.laws.next_to_native_arrives.Goals as goal

pub returns : goal.returns
returns c = next_to_native_arrives
