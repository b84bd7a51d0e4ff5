use Rattle.theory_first_packets.proofs.LawProofs.{histories_take_courses}
use Rattle.theory_first_packets.proofs.laws.histories_take_courses.Goals as goal

pub returns : goal.returns
returns c = histories_take_courses
