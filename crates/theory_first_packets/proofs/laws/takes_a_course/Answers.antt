use Rattle.theory_first_packets.proofs.LawProofs.{takes_a_course}
use Rattle.theory_first_packets.proofs.laws.takes_a_course.Goals as goal

pub returns : goal.returns
returns c = takes_a_course
