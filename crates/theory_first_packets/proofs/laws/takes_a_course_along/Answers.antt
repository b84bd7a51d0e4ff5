use Rattle.theory_first_packets.proofs.LawProofs.{takes_a_course_along}
use Rattle.theory_first_packets.proofs.laws.takes_a_course_along.Goals as goal

pub returns : goal.returns
returns c = takes_a_course_along
